use Rattle.jsonc_ranges.proofs.Noting.{untouched_alike}
use Rattle.jsonc_ranges.proofs.laws.leaves_as_they_were_are_untouched.Goals as goal

pub returns : goal.returns
returns c = λ was ns rs n tree. untouched_alike was tree ns rs n
