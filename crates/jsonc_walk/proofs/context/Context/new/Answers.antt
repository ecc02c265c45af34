use Rattle.std.proofs.Common.{sym, ap, ◌∙◌, ◌≡◌, true, false}
use Rattle.std.specs.Str.{is_utf8}
use Rattle.std.proofs.lemmas.Str.{is_utf8-from_IsUtf8}
use Rattle.jsonc_text.specs.OptionsOf.{parse_options}
use Rattle.jsonc_walk.proofs.context.Context.new.Goals as goal

pub invariant_of-result : goal.invariant_of-result
invariant_of-result g c = record {
  same = ap parse_options c.copied-2.ensures ∙ sym (c.with_options.ensures.options ∙ ap parse_options c.copied.ensures);
  utf8 = ap is_utf8 c.with_options.ensures.text ∙ is_utf8-from_IsUtf8 _ c.utf8.text;
  by_place = λ e. let apart : true ≡ false = e in cc;
}
