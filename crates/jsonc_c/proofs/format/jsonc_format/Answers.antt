use Rattle.std.proofs.Common.{arith, subst, sym}
use Rattle.jsonc_c.specs.Formats.{IsFormattedBy}
use Rattle.jsonc_c.specs.Options.{options_of}
use Rattle.jsonc_c.proofs.Formatting.{unformatted_is}
use Rattle.jsonc_c.proofs.format.jsonc_format.Goals as goal

pub returns-in-Err-clause-formatted : goal.returns-in-Err-clause-formatted
returns-in-Err-clause-formatted c = λ zero. absurd (omega (arith, zero, (unformatted_is _ _ _ _ c.in-Err.ensures.refused).0))

pub returns-in-Ok-clause-formatted : goal.returns-in-Ok-clause-formatted
returns-in-Ok-clause-formatted c = λ zero.
    subst (IsFormattedBy (options_of c.args.options) c.args.style.now c.args.text.now) (sym c.hand_out.ensures) c.in-Ok.ensures.formatted
