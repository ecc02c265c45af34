use Rattle.std.proofs.Common.{◌∙◌, sym, ap}
use Rattle.std.specs.Option.{option_map}
use Rattle.jsonc_tree.specs.Stored.{content_of}
use Rattle.jsonc_edit.proofs.Printing.{kept_prints, unkept_prints}
use Rattle.jsonc_edit.proofs.due.prints_kind.Goals as goal

pub returns-in-Some : goal.returns-in-Some
returns-in-Some g c = c.has_character.ensures ∙ sym (kept_prints (content_of c.args.kind.now) c.in-Some.text.now (sym c.text.ensures ∙ ap (option_map (λ s. s.now)) c.in-Some.is))

pub returns-in-None : goal.returns-in-None
returns-in-None g c = sym (unkept_prints (content_of c.args.kind.now) (sym c.text.ensures ∙ ap (option_map (λ s. s.now)) c.in-None.is))
