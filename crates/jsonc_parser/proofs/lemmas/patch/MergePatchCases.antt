-- The function makes the results of the test cases of RFC 7396.
use Rattle.std.proofs.Common.{refl}
use Rattle.jsonc_parser.specs.patch.MergeCases.{cases, AllHold}

pub cases_hold : AllHold cases
cases_hold = (refl, (refl, (refl, (refl, (refl, (refl, (refl, (refl, (refl, (refl, (refl, (refl, (refl, (refl, (refl, tt)))))))))))))))
