use Rattle.jsonc_view.specs.Unique.{one_members}
use Rattle.jsonc_view.proofs.view.values.object_of.Goals as goal

pub returns : goal.returns
returns g c = λ ms h. one_members c.args.rows.now c.args.members.now c.result-1.given.0.0 ms c.result-1.given.0.1 h
