-- A text and its formatted text without their blanks.
use Rattle.std.proofs.Common.{ℕ, ◌≡◌, ◌∙◌, sym, ap, refl, Bool, true, false, cond, ◌&&◌, ◌==◌, List, [], ◌∷◌, ◌++◌, length, filter, arith}
use Rattle.std.proofs.lemmas.List.Elements.{filter-append}
use Rattle.jsonc_text.specs.Options.{Options}
use Rattle.jsonc_text.specs.Gaps.{is_blank}
use Rattle.jsonc_text.specs.Text.{Many}
use Rattle.jsonc_text.specs.Lexemes.{Scanned, lexeme, line_comment, block_comment}
use Rattle.jsonc_text.proofs.Basics.{test_eq}
use Rattle.jsonc_format.specs.Format.{Style, State, Piece, IsPieces, no_more, piece, after, gap_in, start, written, layout_after, layout}
use Rattle.jsonc_format.specs.Styles.{IsProper}
use Rattle.jsonc_format.specs.Laws.{HasStyle}
use Rattle.jsonc_format.proofs.Trim.{kept, kept_step}
use Rattle.jsonc_format.proofs.Written.{end_blank, gap_blank}
use Rattle.jsonc_changes.specs.Changes.{DifferInBlanks, is_no_blank}
use Rattle.jsonc_changes.proofs.Blanks.{unblanked}

abbrev bare : List ℕ → List ℕ
bare t = filter is_no_blank t

past_blanks : (g r : List ℕ) → Many is_blank g [] → bare (g ++ r) ≡ bare r
past_blanks g r m = filter-append is_no_blank g r ∙ ap (λ t. t ++ bare r) (unblanked m)

empty_of : (s : List ℕ) → (length s == 0) ≡ true → s ≡ []
empty_of [] h = refl
empty_of (c ∷ s) h = absurd (omega (arith, test_eq (length (c ∷ s)) 0 h))

kept_step_bare : (c : ℕ) (s : List ℕ) → bare (kept s) ≡ bare s → (b e : Bool) → is_blank c ≡ b → (length (kept s) == 0) ≡ e
    → bare (cond (b && e) [] (c ∷ kept s)) ≡ bare (c ∷ s)
kept_step_bare c s h true true p q =
    let both : bare (c ∷ kept s) ≡ bare (c ∷ s) = ap (λ t. cond (is_no_blank c) (c ∷ t) t) h in
    let gone : bare (c ∷ kept s) ≡ bare (kept s) = rw p refl in
    ap bare (sym (empty_of (kept s) q)) ∙ sym gone ∙ both
kept_step_bare c s h true false p q = ap (λ t. cond (is_no_blank c) (c ∷ t) t) h
kept_step_bare c s h false e p q = ap (λ t. cond (is_no_blank c) (c ∷ t) t) h

-- a text keeps its other characters without the blanks that end it
kept_bare : (s : List ℕ) → bare (kept s) ≡ bare s
kept_bare [] = refl
kept_bare (c ∷ s) = ap bare (kept_step c s) ∙ kept_step_bare c s (kept_bare s) (is_blank c) (length (kept s) == 0) refl refl

written_bare : (w : Scanned) (s : List ℕ) → bare (written w s) ≡ bare s
written_bare (lexeme k) s = refl
written_bare (line_comment c) s = kept_bare s
written_bare (block_comment c) s = refl

-- what stands in pieces but blanks
abbrev texts : List Piece → List ℕ
texts [] = []
texts (p ∷ ps) = bare p.text ++ texts ps

read_bare : {o : Options} {tail t : List ℕ} {ps : List Piece} → IsPieces o tail t ps → bare t ≡ texts ps
read_bare (no_more h) = unblanked h
read_bare (piece p {u = u} {ps = ps} g x e l) =
    ap bare e ∙ past_blanks p.gap (p.text ++ u) g ∙ filter-append is_no_blank p.text u ∙ ap (λ t. bare p.text ++ t) (read_bare l)

one_bare : (w : Scanned) (s r : List ℕ) (ts : List ℕ) → bare r ≡ ts → bare (written w s ++ r) ≡ bare s ++ ts
one_bare w s r ts e = filter-append is_no_blank (written w s) r ∙ ap (λ t. t ++ bare r) (written_bare w s) ∙ ap (λ t. bare s ++ t) e

laid_after : (y : Style) → IsProper y → (s : State) (ps : List Piece) → bare (layout_after y s ps) ≡ texts ps
laid_after y proper s [] = unblanked (end_blank proper.ends)
laid_after y proper s (p ∷ ps) =
    let z = after y s p.what ps in
    past_blanks (gap_in y s s.around p ps) (written p.what p.text ++ layout_after y z ps) (gap_blank y proper s s.around p ps)
    ∙ one_bare p.what p.text (layout_after y z ps) (texts ps) (laid_after y proper z ps)

laid : (y : Style) → IsProper y → (ps : List Piece) → bare (layout y ps) ≡ texts ps
laid y proper [] = refl
laid y proper (p ∷ ps) = let z = after y start p.what ps in one_bare p.what p.text (layout_after y z ps) (texts ps) (laid_after y proper z ps)

pub formatted_alike : (o : Options) (t f : List ℕ) → HasStyle o t f → DifferInBlanks t f
formatted_alike o t f (y, proper, h) = read_bare h.parts ∙ sym (ap bare h.same ∙ laid y proper h.pieces)
