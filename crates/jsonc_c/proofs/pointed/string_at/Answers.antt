use Rattle.std.proofs.Common.{◌≡◌, chars, rules, string_bytes, subst}
use Rattle.jsonc_text.specs.Plain.{string}
use Rattle.jsonc_layout.specs.input.Views.{plain}
use Rattle.jsonc_parser.specs.patch.Found.{IsOfShown, ReadFails, Reads}
use Rattle.jsonc_parser.specs.patch.Pointer.{tokens_of}
use Rattle.jsonc_c.specs.Pointed.{IsNoStringAt}
use Rattle.jsonc_c.proofs.Patching.{repeated_there}
use Rattle.jsonc_c.proofs.Pointing.{string_there}
use Rattle.jsonc_c.proofs.pointed.string_at.Goals as goal

pub returns-in-Some-clause-found : goal.returns-in-Some-clause-found
returns-in-Some-clause-found c = λ o words text is shown.
    let doc = c.args.document.now in
    let tokens = tokens_of c.args.pointer.now in
    let whole : plain c.in-Ok-Some.value ≡ string (chars (string_bytes c.in-Some.text)) = search rules in
    string_there o words text doc shown tokens is c.in-Ok-Some.value (string_bytes c.in-Some.text) (subst (λ r. IsOfShown doc (λ d. Reads d tokens r)) c.in-Ok-Some.field-0-is c.in-Ok-Some.ensures.read) whole

pub returns-in-Err-RepeatedName-clause-refused : goal.returns-in-Err-RepeatedName-clause-refused
returns-in-Err-RepeatedName-clause-refused c = λ o words text is shown.
    let doc = c.args.document.now in
    let tokens = tokens_of c.args.pointer.now in
    IsNoStringAt.for_value (repeated_there o words text doc shown c.args.fault.now c.tell_name.new.fault c.requires.untold tokens is c.in-Err-RepeatedName.name c.tell_name.result
    (subst (λ e. IsOfShown doc (λ d. ReadFails d doc tokens e)) c.in-Err-RepeatedName.field-0-is c.in-Err-RepeatedName.ensures.fails) c.tell_name.ensures.status c.tell_name.ensures.untold)
