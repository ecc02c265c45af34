use Rattle.std.proofs.Common.{◌∙◌, ℕ, List, Some, None, lit<, sym, subst}
use Rattle.std.proofs.lemmas.Str.Pattern.{strip_prefix_char}
use Rattle.jsonc_parser.specs.patch.Pointer.{IsPointerFault}
use Rattle.jsonc_parser.proofs.lemmas.patch.Texts.{empty_parsed, lacks_slash, slash_first_chars}
use Rattle.jsonc_parser.proofs.patch.pointer.Pointer.parse.Goals as goal

pub returns-then-is_empty-clause-parsed : goal.returns-then-is_empty-clause-parsed
returns-then-is_empty-clause-parsed g c = empty_parsed c.new.result.items c.args.text.now c.new.ensures.items c.if-is_empty.ensures

pub returns-in_default-clause-refused : goal.returns-in_default-clause-refused
returns-in_default-clause-refused g c =
    lacks_slash c.args.text.now c.utf8.text (strip_prefix_char 0x2F c.args.text.now None c.in_default.ensures.cases (lit< tt)) (sym c.if-is_empty.ensures)

pub returns-in-Ok-clause-parsed : goal.returns-in-Ok-clause-parsed
returns-in-Ok-clause-parsed g c =
    let e = strip_prefix_char 0x2F c.args.text.now (Some c.in-Some.rest) c.in-Some.ensures.cases (lit< tt) in
    c.in-Ok.ensures.read ∙ sym (slash_first_chars c.args.text.now c.in-Some.rest.now c.utf8.text e)

pub returns-in-Err-clause-refused : goal.returns-in-Err-clause-refused
returns-in-Err-clause-refused g c =
    let e = strip_prefix_char 0x2F c.args.text.now (Some c.in-Some.rest) c.in-Some.ensures.cases (lit< tt) in
    subst (λ (t : List ℕ). IsPointerFault t c.in-Err.error) (sym (slash_first_chars c.args.text.now c.in-Some.rest.now c.utf8.text e)) c.in-Err.ensures.fault
