use Rattle.std.proofs.Common.{arith, subst, sym}
use Rattle.std.specs.declared.alloc.Global.{Global}
use Rattle.jsonc_c.specs.Edits.{IsEdited}
use Rattle.jsonc_c.specs.Options.{options_of}
use Rattle.jsonc_c.proofs.Unedited.{unedited_tells}
use Rattle.jsonc_c.proofs.lists.jsonc_edit.Goals as goal

pub returns-in-Err-clause-edited : goal.returns-in-Err-clause-edited
returns-in-Err-clause-edited c = λ zero. absurd (omega (arith, zero, (unedited_tells c.in-Err.ensures.refused).0))

pub returns-in-Ok-clause-edited : goal.returns-in-Ok-clause-edited
returns-in-Ok-clause-edited c = λ zero. subst (IsEdited Global (options_of c.args.options) c.args.text.now c.args.edits.now) (sym c.hand_out.ensures) c.in-Ok.ensures.edited
