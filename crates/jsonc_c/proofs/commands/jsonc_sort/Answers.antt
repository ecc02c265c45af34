use Rattle.std.proofs.Common.{arith}
use Rattle.jsonc_c.proofs.commands.jsonc_sort.Goals as goal

pub returns-clause-refused : goal.returns-clause-refused
returns-clause-refused c = λ two. c.change.ensures.refused (omega (arith, two, c.change.ensures.words))
