use Rattle.std.proofs.Common.{ap}
use Rattle.jsonc_view.specs.Lists.{pairs_of}
use Rattle.jsonc_view.specs.Unique.{one_members}
use Rattle.jsonc_view.proofs.view.ViewObject.iter.Goals as goal

pub returns : goal.returns
returns g c = let o = c.args.self.now in ap pairs_of (one_members o.rows.now o.members.now c.result-2-1.given.0.0 o.shown.0 c.result-2-1.given.0.1 o.shown.1)
