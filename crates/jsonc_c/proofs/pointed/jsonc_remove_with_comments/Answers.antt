use Rattle.std.proofs.Common.{arith, subst, sym}
use Rattle.std.specs.declared.alloc.Global.{Global}
use Rattle.jsonc_c.specs.Options.{options_of}
use Rattle.jsonc_c.specs.Pointed.{IsClearedOf}
use Rattle.jsonc_c.proofs.Pointing.{uncleared_ends}
use Rattle.jsonc_c.proofs.pointed.jsonc_remove_with_comments.Goals as goal

pub returns-in-Err-clause-removed : goal.returns-in-Err-clause-removed
returns-in-Err-clause-removed c = λ zero. absurd (omega (arith, zero, (uncleared_ends c.in-Err.ensures.refused).0))

pub returns-in-Err-clause-told : goal.returns-in-Err-clause-told
returns-in-Err-clause-told c = (uncleared_ends c.in-Err.ensures.refused).2

pub returns-in-Ok-clause-removed : goal.returns-in-Ok-clause-removed
returns-in-Ok-clause-removed c = λ zero. subst (IsClearedOf Global (options_of c.args.options) c.args.pointer.now c.args.text.now) (sym c.hand_out.ensures) c.in-Ok.ensures.cleared

pub returns-in-Ok-clause-told : goal.returns-in-Ok-clause-told
returns-in-Ok-clause-told c = λ four seven below. c.in-Ok.ensures.untold
