-- A loop that passes one character after another.
use Rattle.std.proofs.Common.{ℕ, inl, inr, zero, suc, add-zero, subst, ◌≡◌, ◌-◌, ◌+◌, ◌<◌, ◌≤◌, List, length, get_or, arith, IsUtf8, IsTrue, Bool, IsCharBoundary}
use Rattle.std.proofs.lemmas.Bool.{cases_lt}
use Rattle.jsonc_text.specs.Text.{rest, next, no, Many, stop}
use Rattle.jsonc_text.specs.Runs.{RunsTo}
use Rattle.jsonc_text.specs.Chars.{Steps}
use Rattle.jsonc_text.proofs.CharacterSteps.{no_at_end, steps_ascii, many_push}
use Rattle.jsonc_text.proofs.Ascii.{OnlyAscii, ascii_no}

-- from start to place stand characters that pass the test
pub record Passes (p : ℕ → Bool) (bytes : List ℕ) (start place : ℕ) : Type 0 where
  pub boundary : IsCharBoundary bytes place
  pub order : start ≤ place
  pub many : Many p (rest bytes start) (rest bytes place)

pub passes_none : (p : ℕ → Bool) (bytes : List ℕ) (start : ℕ) → IsCharBoundary bytes start → Passes p bytes start start
passes_none p bytes start b = record { boundary = b; order = omega arith; many = stop }

-- one more character that passes
pub passes_more : (p : ℕ → Bool) (bytes : List ℕ) (start i c j : ℕ) → Passes p bytes start i → i ≤ j → IsTrue (p c) → Steps bytes i c j → Passes p bytes start j
passes_more p bytes start i c j h l t s = record { boundary = s.1; order = omega (arith, h.order); many = many_push p bytes start i c j h.many t s }

-- one more that passes, at its byte
pub passes_ascii : (p : ℕ → Bool) (bytes : List ℕ) (start i : ℕ) → OnlyAscii p → IsUtf8 bytes → Passes p bytes start i → i < length bytes → IsTrue (p (get_or bytes i 0)) → Passes p bytes start (i + 1)
passes_ascii p bytes start i small u h l t = passes_more p bytes start i (get_or bytes i 0) (i + 1) h (omega arith) t (steps_ascii bytes i u l (small (get_or bytes i 0) t))

-- bytes that pass, of which only ASCII does, are characters that pass
passes_bytes : (p : ℕ → Bool) (bytes : List ℕ) (i n : ℕ) → OnlyAscii p → IsUtf8 bytes → IsCharBoundary bytes i → i + n ≤ length bytes → ((k : ℕ) → k < n → IsTrue (p (get_or bytes (i + k) 0))) → Passes p bytes i (i + n)
passes_bytes p bytes i zero small u b l all = rw (add-zero i) (passes_none p bytes i b)
passes_bytes p bytes i (suc n) small u b l all =
    let before : Passes p bytes i (i + n) = passes_bytes p bytes i n small u b (omega arith) (λ k h. all k (omega arith)) in
    let same : i + n + 1 ≡ i + suc n = omega arith in
    let P : ℕ → Type 0 = λ j. Passes p bytes i j in
    subst P same (passes_ascii p bytes i (i + n) small u before (omega arith) (all n (omega arith)))

passes_run : (p : ℕ → Bool) (bytes : List ℕ) (i j : ℕ) → OnlyAscii p → IsUtf8 bytes → IsCharBoundary bytes i → RunsTo p bytes i j → Passes p bytes i j
passes_run p bytes i j small u b run =
    let le = run.order in
    let l = run.within in
    let same : i + (j - i) ≡ j = omega arith in
    let P : ℕ → Type 0 = λ m. Passes p bytes i m in
    subst P same (passes_bytes p bytes i (j - i) small u b (omega arith) (λ k h. run.pass (i + k) (omega arith) (omega arith)))

-- a run of bytes, of which only ASCII passes, as characters
pub small_run : (p : ℕ → Bool) (bytes : List ℕ) (i j : ℕ) → OnlyAscii p → IsUtf8 bytes → IsCharBoundary bytes i → RunsTo p bytes i j → Passes p bytes i j × IsTrue (no p (next (rest bytes j)))
small_run p bytes i j small u b run =
    let passed = passes_run p bytes i j small u b run in
    elim (cases_lt j (length bytes)) [
      | inl more ↦ (passed, ascii_no p small bytes j u passed.boundary more (run.stops more))
      | inr past ↦ (passed, no_at_end p bytes j past)
    ]
