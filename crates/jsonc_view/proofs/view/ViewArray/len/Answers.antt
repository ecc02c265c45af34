use Rattle.jsonc_view.proofs.Reading.{count_items}
use Rattle.jsonc_view.proofs.view.ViewArray.len.Goals as goal

pub returns : goal.returns
returns g c = let a = c.args.self.now in count_items a.rows.now a.elements.now a.shown.0 a.shown.1
