-- What leaves beside an entry print.
use Rattle.std.proofs.Common.{ℕ, ◌≡◌, ◌∙◌, sym, ap, subst, refl, Bool, true, false, not, ◌&&◌, List, [], ◌∷◌, ◌++◌, IsTrue, IsUtf8, chars}
use Rattle.std.specs.List.{flat_map}
use Rattle.std.proofs.lemmas.List.{append-nil}
use Rattle.std.proofs.lemmas.Str.{chars-nil, chars-append, chars-IsAscii}
use Rattle.std.proofs.Common.{rules}
use Rattle.jsonc_text.specs.Options.{Options}
use Rattle.jsonc_text.specs.Text.{Many, stop, step, is_line_end}
use Rattle.jsonc_text.specs.Gaps.{is_blank}
use Rattle.jsonc_text.proofs.Basics.{and_both}
use Rattle.jsonc_tree.specs.Content.{Content, newline, text_of, newline_text}
use Rattle.jsonc_tree.specs.declared.node.CstNewlineKind.{CstNewlineKind}
use Rattle.jsonc_tree.specs.declared.node.CstNewlineKind.TheVariants.{LineFeed, CarriageReturnLineFeed, CarriageReturn}
use Rattle.jsonc_layout.specs.nodes.Kinds.{is_newline, is_trivia}
use Rattle.jsonc_sound.specs.Leaves.{is_inner_blank}
use Rattle.jsonc_sound.specs.Shape.{IsTrivia}
use Rattle.jsonc_sound.proofs.ShapeTexts.{trivia_utf8}
use Rattle.jsonc_sound.specs.Leaving.{AreInlineTrivia}
use Rattle.jsonc_sound.specs.TriviaChanges.{AreTrivia}
use Rattle.jsonc_sound.proofs.Pieces.{Piece, Pieces, a_literal, a_name, a_trivia}
use Rattle.jsonc_run.specs.texts.Stretches as documents
use Rattle.jsonc_run.specs.texts.Stretches.{Trivia, InLine, IsLineEnd}
use Rattle.jsonc_run.specs.promise.PlaceLaws.{text_of_leaves}

pub newline_chars : (k : CstNewlineKind) → chars (newline_text k) ≡ newline_text k
newline_chars LineFeed = chars-IsAscii (10 ∷ []) (search rules)
newline_chars CarriageReturnLineFeed = chars-IsAscii (13 ∷ 10 ∷ []) (search rules)
newline_chars CarriageReturn = chars-IsAscii (13 ∷ []) (search rules)

-- one run of characters after another
pub many_joined : {p : ℕ → Bool} {x r y : List ℕ} → Many p x r → r ≡ [] → Many p y [] → Many p (x ++ y) []
many_joined {p} {y = y} stop e k = subst (λ r. Many p (r ++ y) []) (sym e) k
many_joined (step b h) e k = step b (many_joined h e k)

-- the first of some leaves prints before the others
pub first_text : (content : Content) (rest : List Content) → IsUtf8 (text_of content) → text_of_leaves (content ∷ rest) ≡ chars (text_of content) ++ text_of_leaves rest
first_text content rest u = chars-append (text_of content) (flat_map text_of rest) u

-- one end of a line
pub line_end_text : (k : CstNewlineKind) → IsLineEnd (text_of_leaves (newline k ∷ []))
line_end_text k = subst IsLineEnd (sym (ap chars (append-nil (newline_text k)) ∙ newline_chars k)) (by k)
  where
    by : (k : CstNewlineKind) → IsLineEnd (newline_text k)
    by LineFeed = documents.line_feed
    by CarriageReturnLineFeed = documents.both
    by CarriageReturn = documents.carriage_return

pub end_text : (content : Content) → IsTrue (is_newline content) → IsLineEnd (text_of_leaves (content ∷ []))
end_text (Content.newline k) h = line_end_text k
end_text content h = cc

blanks_before : {p : ℕ → Bool} {s r : List ℕ} (t : List ℕ) → ((c : ℕ) → IsTrue (is_inner_blank c) → IsTrue (is_blank c && p c)) → Many is_inner_blank s r → r ≡ [] → Trivia p t → Trivia p (s ++ t)
blanks_before {p} t f stop e h = subst (λ x. Trivia p (x ++ t)) (sym e) h
blanks_before t f (step {c = c} b m) e h = documents.blank (f c b) (blanks_before t f m e h)

in_a_line : (c : ℕ) → IsTrue (is_inner_blank c) → IsTrue (is_blank c && not (is_line_end c))
in_a_line c h = h

with_true : (b : Bool) → IsTrue b → IsTrue (b && true)
with_true true h = refl
with_true false h = cc

anywhere : (c : ℕ) → IsTrue (is_inner_blank c) → IsTrue (is_blank c && true)
anywhere c h = with_true (is_blank c) (and_both (is_blank c) _ h).0

module _ (o : Options) where
  pub piece_trivia : (content : Content) → IsTrue (is_trivia content) → Piece o content → IsTrivia o content
  piece_trivia (Content.whitespace s) h (a_trivia t) = t
  piece_trivia (Content.whitespace s) h (a_literal t) = absurd t
  piece_trivia (Content.whitespace s) h (a_name t) = absurd t
  piece_trivia (Content.newline k) h p = tt
  piece_trivia (Content.comment s) h (a_trivia t) = t
  piece_trivia (Content.comment s) h (a_literal t) = absurd t
  piece_trivia (Content.comment s) h (a_name t) = absurd t
  piece_trivia content h p = cc

  -- whitespace and comments print a stretch of a line
  pub beside_text : (ls : List Content) → AreInlineTrivia ls → Pieces o ls → InLine (text_of_leaves ls)
  beside_text [] h p = subst InLine (sym chars-nil) documents.nothing
  beside_text (Content.whitespace s ∷ ls) h p =
      let t = piece_trivia (Content.whitespace s) refl p.0 in
      subst InLine (sym (first_text (Content.whitespace s) ls t.0)) (blanks_before (text_of_leaves ls) in_a_line t.1 refl (beside_text ls h.1 p.1))
  beside_text (Content.comment s ∷ ls) h p =
      let t = piece_trivia (Content.comment s) refl p.0 in
      subst InLine (sym (first_text (Content.comment s) ls t.1.0)) (documents.comment t.1.1 (beside_text ls h.1 p.1))
  beside_text (content ∷ ls) h p = cc

  -- with ends of lines they are trivia
  newline_before : (k : CstNewlineKind) (t : List ℕ) → Trivia (λ c. true) t → Trivia (λ c. true) (chars (newline_text k) ++ t)
  newline_before k t h = subst (λ x. Trivia (λ c. true) (x ++ t)) (sym (newline_chars k)) (by k)
    where
      by : (k : CstNewlineKind) → Trivia (λ c. true) (newline_text k ++ t)
      by LineFeed = documents.blank refl h
      by CarriageReturnLineFeed = documents.blank refl (documents.blank refl h)
      by CarriageReturn = documents.blank refl h

  pub trivia_text : (ls : List Content) → AreTrivia ls → Pieces o ls → Trivia (λ c. true) (text_of_leaves ls)
  trivia_text [] h p = subst (Trivia (λ c. true)) (sym chars-nil) documents.nothing
  trivia_text (Content.whitespace s ∷ ls) h p =
      let t = piece_trivia (Content.whitespace s) refl p.0 in
      subst (Trivia (λ c. true)) (sym (first_text (Content.whitespace s) ls t.0)) (blanks_before (text_of_leaves ls) anywhere t.1 refl (trivia_text ls h.1 p.1))
  trivia_text (Content.newline k ∷ ls) h p =
      subst (Trivia (λ c. true)) (sym (first_text (Content.newline k) ls (trivia_utf8 o (Content.newline k) tt))) (newline_before k (text_of_leaves ls) (trivia_text ls h.1 p.1))
  trivia_text (Content.comment s ∷ ls) h p =
      let t = piece_trivia (Content.comment s) refl p.0 in
      subst (Trivia (λ c. true)) (sym (first_text (Content.comment s) ls t.1.0)) (documents.comment t.1.1 (trivia_text ls h.1 p.1))
  trivia_text (content ∷ ls) h p = cc
