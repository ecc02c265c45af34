use Rattle.std.proofs.Common.{inl, inr, refl, subst}
use Rattle.jsonc_text.specs.OptionsOf.{parse_options}
use Rattle.jsonc_parser.specs.patch.Pointer.{tokens_of}
use Rattle.jsonc_program.specs.edit.Routes.{IsLedTo, tokens as by_tokens}
use Rattle.jsonc_program.proofs.Values.{pointed_nowhere}
use Rattle.jsonc_program.proofs.value.pointed.Goals as goal

pub returns-in-Ok-None-clause-refused : goal.returns-in-Ok-None-clause-refused
returns-in-Ok-None-clause-refused c =
    let doc = c.in_ok-document.document in
    let ts = tokens_of c.in_ok-pointer.pointer in
    inr (inr (inl (
      refl,
      pointed_nowhere (parse_options c.args.options.now) c.args.pointer.now c.args.input.now doc ts c.in_ok-pointer.ensures.parsed
          c.in_ok-document.ensures.shown (subst (λ f. IsLedTo doc (by_tokens ts) f) c.in-Ok-None.field-0-is c.in-Ok-None.ensures.led),
    )))
