use Rattle.std.proofs.Common.{ap}
use Rattle.jsonc_view.specs.Lists.{list_of}
use Rattle.jsonc_view.specs.Unique.{one_items}
use Rattle.jsonc_view.proofs.view.ViewArray.iter.Goals as goal

pub returns : goal.returns
returns g c = let a = c.args.self.now in ap list_of (one_items a.rows.now a.elements.now c.result-2-1.given.0.0 a.shown.0 c.result-2-1.given.0.1 a.shown.1)
