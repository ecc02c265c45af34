use Rattle.jsonc_view.specs.Unique.{one_items}
use Rattle.jsonc_view.proofs.view.values.array_of.Goals as goal

pub returns : goal.returns
returns g c = λ vs h. one_items c.args.rows.now c.args.elements.now c.result-1.given.0.0 vs c.result-1.given.0.1 h
