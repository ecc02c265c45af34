use Rattle.jsonc_view.proofs.Reading.{count_members}
use Rattle.jsonc_view.proofs.view.ViewObject.len.Goals as goal

pub returns : goal.returns
returns g c = let o = c.args.self.now in count_members o.rows.now o.members.now o.shown.0 o.shown.1
