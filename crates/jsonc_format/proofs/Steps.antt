-- One piece of a text after another, as a scanner reads them.
use Rattle.std.proofs.Common.{ℕ, ◌≡◌, ◌∙◌, sym, ap, refl, subst, List, [], ◌∷◌, ◌++◌, IsTrue, IsUtf8, chars, slice_range}
use Rattle.jsonc_text.specs.Options.{Options}
use Rattle.jsonc_text.specs.Text.{next, no, rest, Many}
use Rattle.jsonc_text.specs.Gaps.{is_blank}
use Rattle.jsonc_text.specs.Lexemes.{Scanned, IsScanned}
use Rattle.jsonc_text.proofs.Basics.{front_same}
use Rattle.jsonc_text.proofs.Cuts.{chars_between, slice_chars, many_split}
use Rattle.jsonc_text.proofs.UniqueGaps.{many_unique}
use Rattle.jsonc_text.proofs.UniqueLexemes.{scanned_unique}
use Rattle.jsonc_text.proofs.UniqueTokens.{scanned_no_blank}
use Rattle.jsonc_format.specs.Format.{Piece, IsPieces, no_more, piece}
use Rattle.jsonc_format.specs.Pieces.{HasNoPieces, piece_at, IsReadAt}
use Rattle.jsonc_format.proofs.Unique.{starts_no, to_piece, no_piece, made, made_same}

-- the first piece of a text, and the others
pub record Front (o : Options) (tail : List ℕ) (p : Piece) (v : List ℕ) (ps : List Piece) : Type 0 where
  pub others : List Piece
  pub same : ps ≡ p ∷ others
  pub parts : IsPieces o tail v others

pub front : {o : Options} {tail t : List ℕ} {ps : List Piece} → IsPieces o tail t ps → (w : Scanned) (g s v : List ℕ) → Many is_blank g [] → IsScanned o w (s ++ v) v → t ≡ g ++ (s ++ v)
    → Front o tail (made g w s) v ps
front {o} (no_more h) w g s v k x e = absurd (no_piece o w s v h k x e)
front {o} {tail} {t} (piece p {u = u} g x e l) w h s v k y f =
    let a : p.text ++ u ≡ s ++ v = many_unique (to_piece e g) (to_piece f k)
    (starts_no (next (p.text ++ u)) (scanned_no_blank o p.what (p.text ++ u) u x))
    (starts_no (next (s ++ v)) (scanned_no_blank o w (s ++ v) v y)) in
    let b = scanned_unique o p.what w (p.text ++ u) u v x (rw (← a) at y) in
    record { others = _; same = made_same (front_same a (sym e ∙ f)) b.0 (front_same b.1 a) refl; parts = rw (sym b.1) l }

-- a text of blanks has no pieces
pub no_front : {o : Options} {tail t : List ℕ} {ps : List Piece} → IsPieces o tail t ps → Many is_blank t [] → (ps ≡ []) × (t ≡ tail)
no_front (no_more h) k = (refl, refl)
no_front {o} (piece p {u = u} g x e l) k = absurd (no_piece o p.what p.text u k g x e)

-- what a scanner reads from a place is the first piece of the text from there on
pub read_front : (o : Options) (bytes : List ℕ) (from begin end : ℕ) (w : Scanned) → IsUtf8 bytes → IsReadAt o bytes from begin end w
    → (tail : List ℕ) (ps : List Piece) → IsPieces o tail (rest bytes from) ps → Front o tail (piece_at bytes from begin end w) (rest bytes end) ps
read_front o bytes from begin end w u r tail ps h =
    let gap : rest bytes from ≡ chars (slice_range bytes from begin) ++ rest bytes begin = chars_between bytes from begin u r.gap in
    let text : rest bytes begin ≡ chars (slice_range bytes begin end) ++ rest bytes end = chars_between bytes begin end u r.text in
    let part = many_split is_blank r.blanks in
    let same : chars (slice_range bytes from begin) ≡ part.0 = slice_chars bytes part.0 from begin u r.gap.from r.gap.to part.1 in
    front h w (chars (slice_range bytes from begin)) (chars (slice_range bytes begin end)) (rest bytes end) (subst (λ s. Many is_blank s []) (sym same) part.2)
    (rw text at r.scanned) (gap ∙ ap (λ t. chars (slice_range bytes from begin) ++ t) text)

-- where no lexeme or comment is, and the text goes on, there are no pieces
pub none_here : (o : Options) (t u : List ℕ) → Many is_blank t u → IsTrue (no is_blank (next u)) → ((w : Scanned) (r : List ℕ) → IsScanned o w u r → ⊥) → (u ≡ [] → ⊥) → HasNoPieces o t
none_here o t u m n none more tail ps h = by_pieces h m n none more
  where
    by_pieces : {t : List ℕ} {ps : List Piece} → IsPieces o tail t ps → Many is_blank t u → IsTrue (no is_blank (next u)) → ((w : Scanned) (r : List ℕ) → IsScanned o w u r → ⊥) → (u ≡ [] → ⊥) → ⊥
    by_pieces (no_more k) m n none more = more (sym (many_unique k m refl n))
    by_pieces (piece p {u = v} g x e l) m n none more =
        let same : p.text ++ v ≡ u = many_unique (to_piece e g) m (starts_no (next (p.text ++ v)) (scanned_no_blank o p.what (p.text ++ v) v x)) n in
        none p.what v (rw same at x)
