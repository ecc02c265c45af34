use Rattle.std.proofs.Common.{arith, subst, sym}
use Rattle.std.specs.declared.alloc.Global.{Global}
use Rattle.jsonc_c.specs.Options.{options_of}
use Rattle.jsonc_c.specs.Patches.{IsPatchedBy}
use Rattle.jsonc_c.proofs.Patching.{unpatched_ends}
use Rattle.jsonc_c.proofs.patches.jsonc_apply_patch.Goals as goal

pub returns-in-Err-clause-patched : goal.returns-in-Err-clause-patched
returns-in-Err-clause-patched c = λ zero. absurd (omega (arith, zero, (unpatched_ends c.in-Err.ensures.refused).0))

pub returns-in-Err-clause-told : goal.returns-in-Err-clause-told
returns-in-Err-clause-told c = (unpatched_ends c.in-Err.ensures.refused).2

pub returns-in-Ok-clause-patched : goal.returns-in-Ok-clause-patched
returns-in-Ok-clause-patched c = λ zero. subst (IsPatchedBy Global (options_of c.args.options) c.args.patch.now c.args.text.now) (sym c.hand_out.ensures) c.in-Ok.ensures.patched

pub returns-in-Ok-clause-told : goal.returns-in-Ok-clause-told
returns-in-Ok-clause-told c = λ four seven below. c.in-Ok.ensures.untold
