use Rattle.std.proofs.Common.{arith}
use Rattle.jsonc_c.proofs.into.jsonc_print_into.Goals as goal

pub returns-clause-refused : goal.returns-clause-refused
returns-clause-refused c = λ two room. c.change_into.ensures.refused (omega (arith, two, c.change_into.ensures.words)) room
