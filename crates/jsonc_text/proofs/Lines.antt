-- Lines and columns, a character at a time.
use Rattle.std.proofs.Common.{ℕ, ◌+◌, ◌<◌, ◌≤◌, ◌≡◌, ◌∙◌, sym, ap, refl, List, [], ◌∷◌, ◌++◌, length, drop, arith, IsUtf8, chars, Bool, true, false, cond, IsCharBoundary, append_assoc, slice_range, length-drop, length-append}
use Rattle.std.proofs.lemmas.Str.{IsUtf8-drop, encodes-chars, chars-append, IsCharBoundary-start}
use Rattle.std.proofs.lemmas.List.{append-nil, drop-append-le}
use Rattle.std.proofs.lemmas.List.Folds.{drop_split}
use Rattle.jsonc_text.specs.Text.{rest, byte_length}
use Rattle.jsonc_text.specs.Chars.{Steps}
use Rattle.jsonc_text.specs.Places.{ends_line, walked, LineColumn}

-- from this line and column over the character c, where r follows it
abbrev pub past : ℕ × ℕ → ℕ → List ℕ → ℕ × ℕ
past p c r = cond (ends_line c r) (p.0 + 1, 1) (p.0, p.1 + 1)

cond_of : {A B : Type 0} (f : A → B) (b : Bool) (x y : A) → cond b (f x) (f y) ≡ f (cond b x y)
cond_of f true x y = refl
cond_of f false x y = refl

pub walked_push : (line column : ℕ) (s : List ℕ) (c : ℕ) (r : List ℕ) → walked line column (s ++ c ∷ []) r ≡ past (walked line column s (c ∷ r)) c r
walked_push line column [] c r = refl
walked_push line column (d ∷ s) c r =
    rw (append_assoc s (c ∷ []) r, walked_push (line + 1) 1 s c r, walked_push line (column + 1) s c r)
    (cond_of (λ p. past p c r) (ends_line d (s ++ c ∷ r)) (walked (line + 1) 1 s (c ∷ r)) (walked line (column + 1) s (c ∷ r)))

-- the walk over the text `front`, which `after` follows, has come to the place `at`
pub record Walks (front after : List ℕ) (at line column : ℕ) : Type 0 where
  pub boundary : IsCharBoundary front at
  pub passed : List ℕ
  pub split : chars front ≡ passed ++ rest front at
  pub position : (line, column) ≡ walked 1 1 passed (rest front at ++ after)
  pub few : (line ≤ at + 1) × (column ≤ at + 1)

pub walks_start : (front after : List ℕ) → IsUtf8 front → Walks front after 0 1 1
walks_start front after u = record { boundary = IsCharBoundary-start front u; passed = []; split = refl; position = refl; few = (omega arith, omega arith) }

walked_past : (front after passed : List ℕ) (at c j line column : ℕ) → rest front at ≡ c ∷ rest front j → (line, column) ≡ walked 1 1 passed (rest front at ++ after) → past (line, column) c (rest front j ++ after) ≡ walked 1 1 (passed ++ c ∷ []) (rest front j ++ after)
walked_past front after passed at c j line column e p =
    ap (λ q. past q c (rest front j ++ after)) (p ∙ ap (λ t. walked 1 1 passed (t ++ after)) e) ∙ sym (walked_push 1 1 passed c (rest front j ++ after))

pub walks_past : (front after : List ℕ) (at c j line column new_line new_column : ℕ) → Walks front after at line column → Steps front at c j → at < j
    → (new_line, new_column) ≡ past (line, column) c (rest front j ++ after) → (new_line ≤ line + 1) × (new_column ≤ column + 1) → Walks front after j new_line new_column
walks_past front after at c j line column new_line new_column w s l e few =
    record {
      boundary = s.1;
      passed = w.passed ++ c ∷ [];
      split = w.split ∙ ap (λ t. w.passed ++ t) s.0 ∙ sym (append_assoc w.passed (c ∷ []) (rest front j));
      position = e ∙ walked_past front after w.passed at c j line column s.0 w.position;
      few = (omega (arith, w.few.0, few.0), omega (arith, w.few.1, few.1));
    }

-- a line end leads to the next line, and any other character to the next column
pub walks_line : (front after : List ℕ) (at c j line column : ℕ) → Walks front after at line column → Steps front at c j → at < j → ends_line c (rest front j ++ after) ≡ true → Walks front after j (line + 1) 1
walks_line front after at c j line column w s l e =
    walks_past front after at c j line column (line + 1) 1 w s l (rw e refl) (omega arith, omega arith)

pub walks_column : (front after : List ℕ) (at c j line column : ℕ) → Walks front after at line column → Steps front at c j → at < j → ends_line c (rest front j ++ after) ≡ false → Walks front after j line (column + 1)
walks_column front after at c j line column w s l e = walks_past front after at c j line column line (column + 1) w s l (rw e refl) (omega arith, omega arith)

-- the first `place` bytes of a text, and what comes after them
pub rest_front : (bytes front : List ℕ) (place at : ℕ) → front ≡ slice_range bytes 0 place → IsUtf8 front → IsCharBoundary front at → rest bytes at ≡ rest front at ++ rest bytes place
rest_front bytes front place at e u b =
    let whole : bytes ≡ front ++ drop place bytes = rw e (drop_split bytes 0 place (omega arith)) in
    ap (λ t. chars (drop at t)) whole ∙ ap chars (drop-append-le at front (drop place bytes) b.0) ∙ chars-append (drop at front) (drop place bytes) (IsUtf8-drop front at u b)

pub walks_end : (bytes front : List ℕ) (place at line column : ℕ) → front ≡ slice_range bytes 0 place → IsUtf8 bytes → IsUtf8 front → IsCharBoundary bytes place → rest front at ≡ [] → Walks front (rest bytes place) at line column → LineColumn (chars bytes) place line column
walks_end bytes front place at line column e u uf b none w =
    let whole : bytes ≡ front ++ drop place bytes = rw e (drop_split bytes 0 place (omega arith)) in
    let all : chars front ≡ w.passed = w.split ∙ ap (λ t. w.passed ++ t) none ∙ append-nil w.passed in
    record {
      before = w.passed;
      after = rest bytes place;
      split = ap chars whole ∙ chars-append front (drop place bytes) uf ∙ ap (λ t. t ++ rest bytes place) all;
      at = ap byte_length (sym all) ∙ ap length (encodes-chars front uf) ∙ omega (arith, ap length whole, length-append front (drop place bytes), length-drop place bytes, b.0);
      position = w.position ∙ ap (λ t. walked 1 1 w.passed (t ++ rest bytes place)) none;
    }
