-- A text has one list of pieces.
use Rattle.std.proofs.Common.{ℕ, ◌≡◌, ◌∙◌, sym, true, not, refl, Option, Some, None, List, [], ◌∷◌, ◌++◌, IsTrue}
use Rattle.jsonc_text.specs.Options.{Options}
use Rattle.jsonc_text.specs.Text.{next, no, starts, Many}
use Rattle.jsonc_text.specs.Gaps.{is_blank}
use Rattle.jsonc_text.specs.Lexemes.{Scanned, IsScanned}
use Rattle.jsonc_text.proofs.Basics.{clash, front_same}
use Rattle.jsonc_text.proofs.UniqueGaps.{many_unique}
use Rattle.jsonc_text.proofs.UniqueWords.{many_more}
use Rattle.jsonc_text.proofs.UniqueLexemes.{scanned_unique}
use Rattle.jsonc_text.proofs.UniqueTokens.{scanned_no_blank}
use Rattle.jsonc_format.specs.Format.{Piece, IsPieces, no_more, piece}

pub starts_no : (n : Option ℕ) → IsTrue (starts (λ c. not (is_blank c)) n) → IsTrue (no is_blank n)
starts_no None h = refl
starts_no (Some c) h = h

-- the blanks before a piece are all that stand there
pub to_piece : {t g r : List ℕ} → t ≡ g ++ r → Many is_blank g [] → Many is_blank t r
to_piece {t} {g} {r} e h = rw e (many_more h r)

pub no_piece : (o : Options) (w : Scanned) (s u : List ℕ) {t g : List ℕ} → Many is_blank t [] → Many is_blank g [] → IsScanned o w (s ++ u) u → t ≡ g ++ (s ++ u) → ⊥
no_piece o w s u h k x e =
    let a = scanned_no_blank o w (s ++ u) u x in
    let b : [] ≡ s ++ u = many_unique h (to_piece e k) refl (starts_no (next (s ++ u)) a) in
    clash true (rw (← b) at a) refl

abbrev pub made : List ℕ → Scanned → List ℕ → Piece
made g w s = record { gap = g; what = w; text = s }

pub made_same : {g h s u : List ℕ} {w v : Scanned} {ps qs : List Piece} → g ≡ h → w ≡ v → s ≡ u → ps ≡ qs → made g w s ∷ ps ≡ made h v u ∷ qs
made_same a b c d = cc

pub pieces_and_tails : {o : Options} {end1 end2 t : List ℕ} {ps qs : List Piece} → IsPieces o end1 t ps → IsPieces o end2 t qs → (ps ≡ qs) × (end1 ≡ end2)
pieces_and_tails (no_more h) (no_more k) = (refl, refl)
pieces_and_tails {o} (no_more h) (piece q g x e l) = absurd (no_piece o q.what q.text _ h g x e)
pieces_and_tails {o} (piece p g x e l) (no_more h) = absurd (no_piece o p.what p.text _ h g x e)
pieces_and_tails {o} {end1} {end2} {t} (piece p {u = u} g x e l) (piece q {u = v} h y f m) =
    let a : p.text ++ u ≡ q.text ++ v = many_unique (to_piece e g) (to_piece f h)
    (starts_no (next (p.text ++ u)) (scanned_no_blank o p.what (p.text ++ u) u x))
    (starts_no (next (q.text ++ v)) (scanned_no_blank o q.what (q.text ++ v) v y)) in
    let b = scanned_unique o p.what q.what (p.text ++ u) u v x (rw (← a) at y) in
    let others = pieces_and_tails l (rw (← b.1) at m) in
    (made_same (front_same a (sym e ∙ f)) b.0 (front_same b.1 a) others.0, others.1)

pub pieces_unique : {o : Options} {end1 end2 t : List ℕ} {ps qs : List Piece} → IsPieces o end1 t ps → IsPieces o end2 t qs → ps ≡ qs
pieces_unique h k = (pieces_and_tails h k).0
