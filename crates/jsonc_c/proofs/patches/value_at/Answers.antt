use Rattle.std.proofs.Common.{subst}
use Rattle.jsonc_parser.specs.patch.Found.{FindFails, IsOfShown}
use Rattle.jsonc_parser.specs.patch.Pointer.{tokens_of}
use Rattle.jsonc_c.proofs.Patching.{repeated_there}
use Rattle.jsonc_c.proofs.patches.value_at.Goals as goal

pub returns-in-Err-RepeatedName-clause-refused : goal.returns-in-Err-RepeatedName-clause-refused
returns-in-Err-RepeatedName-clause-refused c = λ o words text is shown.
    let doc = c.args.document.now in
    let tokens = tokens_of c.args.pointer.now in
    repeated_there o words text doc shown c.args.fault.now c.tell_name.new.fault c.requires.untold tokens is c.in-Err-RepeatedName.name c.tell_name.result
    (subst (λ e. IsOfShown doc (λ d. FindFails d doc tokens e)) c.in-Err-RepeatedName.field-0-is c.in-Err-RepeatedName.ensures.fails) c.tell_name.ensures.status c.tell_name.ensures.untold
