use Rattle.std.proofs.Common.{arith, subst, sym}
use Rattle.jsonc_c.specs.Options.{options_of}
use Rattle.jsonc_c.specs.Pointed.{IsStringAt}
use Rattle.jsonc_c.proofs.Pointing.{no_string_ends}
use Rattle.jsonc_c.proofs.pointed.jsonc_find_string.Goals as goal

pub returns-in-Err-clause-found : goal.returns-in-Err-clause-found
returns-in-Err-clause-found c = λ zero. absurd (omega (arith, zero, (no_string_ends c.in-Err.ensures.refused).0))

pub returns-in-Err-clause-told : goal.returns-in-Err-clause-told
returns-in-Err-clause-told c = (no_string_ends c.in-Err.ensures.refused).2

pub returns-in-Ok-clause-found : goal.returns-in-Ok-clause-found
returns-in-Ok-clause-found c = λ zero. subst (IsStringAt (options_of c.args.options) c.args.pointer.now c.args.text.now) (sym c.hand_out.ensures) c.in-Ok.ensures.found

pub returns-in-Ok-clause-told : goal.returns-in-Ok-clause-told
returns-in-Ok-clause-told c = λ four seven below. c.in-Ok.ensures.untold
