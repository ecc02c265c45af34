-- Where a comment leaves a sound tree, it leaves the text.
use Rattle.std.proofs.Common.{ℕ, ◌≡◌, ◌∙◌, sym, ap, subst, refl, List, [], ◌∷◌, ◌++◌}
use Rattle.std.proofs.lemmas.Str.{chars-nil}
use Rattle.jsonc_text.specs.Options.{Options}
use Rattle.jsonc_text.specs.Text as many
use Rattle.jsonc_text.specs.Text.{Many}
use Rattle.jsonc_text.specs.Gaps.{is_blank}
use Rattle.jsonc_text.proofs.Basics.{and_both}
use Rattle.jsonc_tree.specs.Content.{Content, newline_text}
use Rattle.jsonc_tree.specs.declared.node.CstNewlineKind.{CstNewlineKind}
use Rattle.jsonc_tree.specs.declared.node.CstNewlineKind.TheVariants.{LineFeed, CarriageReturnLineFeed, CarriageReturn}
use Rattle.jsonc_sound.specs.Leaves.{is_inner_blank}
use Rattle.jsonc_sound.proofs.ShapeTexts.{trivia_utf8}
use Rattle.jsonc_sound.specs.MarkChanges.{AreBlanks}
use Rattle.jsonc_sound.proofs.Pieces.{Pieces}
use Rattle.jsonc_run.specs.texts.Stretches as documents
use Rattle.jsonc_run.specs.promise.PlaceLaws.{text_of_leaves}
use Rattle.jsonc_run.proofs.lemmas.promise.Trivia.{first_text, newline_chars, piece_trivia}

more_blanks : {s r t : List ℕ} → Many is_inner_blank s r → r ≡ [] → Many is_blank t [] → Many is_blank (s ++ t) []
more_blanks {t = t} many.stop e h = subst (λ x. Many is_blank (x ++ t) []) (sym e) h
more_blanks (many.step {c = c} b m) e h = many.step (and_both (is_blank c) _ b).0 (more_blanks m e h)

newline_blanks : (k : CstNewlineKind) {t : List ℕ} → Many is_blank t [] → Many is_blank (newline_text k ++ t) []
newline_blanks LineFeed h = many.step refl h
newline_blanks CarriageReturnLineFeed h = many.step refl (many.step refl h)
newline_blanks CarriageReturn h = many.step refl h

module _ (o : Options) where
  pub blanks_text : (ls : List Content) → AreBlanks ls → Pieces o ls → documents.AreBlanks (text_of_leaves ls)
  blanks_text [] h p = subst documents.AreBlanks (sym chars-nil) many.stop
  blanks_text (Content.whitespace s ∷ ls) h p =
      let t = piece_trivia o (Content.whitespace s) refl p.0 in
      subst documents.AreBlanks (sym (first_text (Content.whitespace s) ls t.0)) (more_blanks t.1 refl (blanks_text ls h.1 p.1))
  blanks_text (Content.newline k ∷ ls) h p =
      subst documents.AreBlanks (sym (first_text (Content.newline k) ls (trivia_utf8 o (Content.newline k) tt) ∙ ap (λ x. x ++ text_of_leaves ls) (newline_chars k))) (newline_blanks k (blanks_text ls h.1 p.1))
  blanks_text (c ∷ ls) h p = cc
