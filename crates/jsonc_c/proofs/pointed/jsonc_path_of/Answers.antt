use Rattle.std.proofs.Common.{arith, subst, sym}
use Rattle.jsonc_c.specs.Options.{options_of}
use Rattle.jsonc_c.specs.Pointed.{IsPathOf}
use Rattle.jsonc_c.proofs.Patching.{unfound_ends}
use Rattle.jsonc_c.proofs.pointed.jsonc_path_of.Goals as goal

pub returns-in-Err-clause-found : goal.returns-in-Err-clause-found
returns-in-Err-clause-found c = λ zero. absurd (omega (arith, zero, (unfound_ends c.in-Err.ensures.refused).0))

pub returns-in-Err-clause-told : goal.returns-in-Err-clause-told
returns-in-Err-clause-told c = (unfound_ends c.in-Err.ensures.refused).2

pub returns-in-Ok-clause-found : goal.returns-in-Ok-clause-found
returns-in-Ok-clause-found c = λ zero. subst (IsPathOf (options_of c.args.options) c.args.pointer.now c.args.text.now) (sym c.hand_out_path.ensures) c.in-Ok.ensures.found

pub returns-in-Ok-clause-told : goal.returns-in-Ok-clause-told
returns-in-Ok-clause-told c = λ four seven below. c.in-Ok.ensures.untold
