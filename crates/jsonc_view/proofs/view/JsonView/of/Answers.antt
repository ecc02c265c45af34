use Rattle.jsonc_view.specs.Unique.{one_root}
use Rattle.jsonc_view.proofs.view.JsonView.of.Goals as goal

pub returns : goal.returns
returns g c = λ v h. one_root c.args.rows c.args.root c.result-1.given.0.0 v c.result-1.given.0.1 h
