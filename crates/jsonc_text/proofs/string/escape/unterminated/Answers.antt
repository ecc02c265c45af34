use Rattle.std.proofs.Common.{◌∙◌, ap, arith, length}
use Rattle.jsonc_text.proofs.CharacterSteps.{rest_end}
use Rattle.jsonc_text.specs.string.Faults.{past}
use Rattle.jsonc_text.proofs.string.escape.unterminated.Goals as goal

pub returns-clause-end : goal.returns-clause-end
returns-clause-end c = c.string_fault.ensures.end ∙ ap past (rest_end c.args.text.now (length c.args.text.now) (omega arith))
