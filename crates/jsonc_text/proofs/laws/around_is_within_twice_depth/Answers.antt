use Rattle.std.proofs.Common.{arith}
use Rattle.jsonc_text.proofs.Nesting.{around_twice}
use Rattle.jsonc_text.proofs.laws.around_is_within_twice_depth.Goals as goal

pub returns : goal.returns
returns c = λ v d. omega (arith, around_twice v)
