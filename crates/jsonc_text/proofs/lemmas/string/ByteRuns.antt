-- Runs of bytes, and the characters that they are.
use Rattle.std.proofs.Common.{ℕ, ◌+◌, ◌<◌, ◌≤◌, ◌≡◌, ◌∙◌, sym, ap, subst, List, [], ◌∷◌, ◌++◌, length, get_or, arith, IsUtf8, IsTrue, Bool, true, false, not, IsCharBoundary, chars, encode_utf8, encode_utf8_all, slice_range, ◌⊎◌, inl, inr, length-append}
use Rattle.std.proofs.lemmas.Bool.{cases_lt}
use Rattle.std.proofs.lemmas.List.{get_or-append-add}
use Rattle.std.proofs.lemmas.List.Edits.{get_or-between, length-between}
use Rattle.std.proofs.lemmas.Str.{encode_ascii, encodes-chars, IsUtf8-between, IsCharBoundary-end, IsCharBoundary-before_ascii}
use Rattle.jsonc_text.specs.Text.{rest, Many, stop, step, Spans}
use Rattle.jsonc_text.specs.Runs.{RunsTo}
use Rattle.jsonc_text.specs.string.Between.{Reaches, LacksAt, is_neither}
use Rattle.jsonc_text.proofs.CharacterSteps.{no_at_end, steps_ascii}
use Rattle.jsonc_text.proofs.Cuts.{chars_between}

-- each byte from one place to another passes the test
pub record BytesPass (p : ℕ → Bool) (bytes : List ℕ) (start place : ℕ) : Type 0 where
  pub order : start ≤ place
  pub within : place ≤ length bytes
  pub pass : (k : ℕ) → start ≤ k → k < place → IsTrue (p (get_or bytes k 0))

pub pass_none : (p : ℕ → Bool) (bytes : List ℕ) (i : ℕ) → IsCharBoundary bytes i → BytesPass p bytes i i
pass_none p bytes i b = record { order = omega arith; within = b.0; pass = λ k h l. absurd (omega arith) }

pub pass_more : (p : ℕ → Bool) (bytes : List ℕ) (i j : ℕ) → BytesPass p bytes i j → j < length bytes → IsTrue (p (get_or bytes j 0)) → BytesPass p bytes i (j + 1)
pass_more p bytes i j held l h = record { order = omega (arith, held.order); within = omega arith; pass = more }
  where
    more : (k : ℕ) → i ≤ k → k < j + 1 → IsTrue (p (get_or bytes k 0))
    more k a b = go (cases_lt k j)
      where
        go : (k < j) ⊎ (j ≤ k) → IsTrue (p (get_or bytes k 0))
        go (inl c) = held.pass k a c
        go (inr c) = let e : k ≡ j = omega arith in rw e h

-- a test that each character past ASCII passes
abbrev pub PassesWide : (ℕ → Bool) → Type 0
PassesWide p = (c : ℕ) → 128 ≤ c → IsTrue (p c)

-- characters whose bytes pass pass
chars_pass : (p : ℕ → Bool) → PassesWide p → (cs r : List ℕ) → ((k : ℕ) → k < length (encode_utf8_all cs) → IsTrue (p (get_or (encode_utf8_all cs) k 0))) → Many p (cs ++ r) r
chars_pass p wide [] r f = stop
chars_pass p wide (c ∷ cs) r f = step (first (cases_lt c 128)) (chars_pass p wide cs r others)
  where
    first : (c < 128) ⊎ (128 ≤ c) → IsTrue (p c)
    first (inl h) =
        let one : encode_utf8 c ≡ c ∷ [] = encode_ascii c h in
        let all : encode_utf8_all (c ∷ cs) ≡ c ∷ encode_utf8_all cs = ap (λ x. x ++ encode_utf8_all cs) one in
        rw all at (f 0 (rw all (omega arith)))
    first (inr h) = wide c h

    others : (k : ℕ) → k < length (encode_utf8_all cs) → IsTrue (p (get_or (encode_utf8_all cs) k 0))
    others k h = rw (← get_or-append-add (encode_utf8 c) (encode_utf8_all cs) k 0) (f (length (encode_utf8 c) + k) (rw length-append (omega arith)))

pub many_bytes : (p : ℕ → Bool) → PassesWide p → (bytes : List ℕ) (i j : ℕ) → IsUtf8 bytes → IsCharBoundary bytes i → IsCharBoundary bytes j → BytesPass p bytes i j → Reaches (Many p) bytes i j
many_bytes p wide bytes i j u b d held =
    let spans : Spans bytes i j = record { from = b; to = d; order = held.order } in
    let piece : encode_utf8_all (chars (slice_range bytes i j)) ≡ slice_range bytes i j = encodes-chars (slice_range bytes i j) (IsUtf8-between bytes i j u held.order b d) in
    let pass : (k : ℕ) → k < length (slice_range bytes i j) → IsTrue (p (get_or (slice_range bytes i j) k 0)) =
    λ k h. let near : i + k < j = omega (arith, length-between bytes i j d.0) in
    rw (get_or-between bytes i j k 0 near) (held.pass (i + k) (omega arith) (omega arith)) in
    record { boundary = d; order = held.order; piece = rw (chars_between bytes i j u spans) (chars_pass p wide (chars (slice_range bytes i j)) (rest bytes j) (rw piece pass)) }

-- a byte that fails such a test is a character of ASCII
small_failing : (p : ℕ → Bool) → PassesWide p → (c : ℕ) → p c ≡ false → c < 128
small_failing p wide c f = go (cases_lt c 128)
  where
    go : (c < 128) ⊎ (128 ≤ c) → c < 128
    go (inl h) = h
    go (inr h) = let both : true ≡ false = sym (wide c h) ∙ f in cc

pub stop_boundary : (p : ℕ → Bool) → PassesWide p → (bytes : List ℕ) (j : ℕ) → j < length bytes → p (get_or bytes j 0) ≡ false → IsCharBoundary bytes j
stop_boundary p wide bytes j l f = IsCharBoundary-before_ascii bytes j l (small_failing p wide (get_or bytes j 0) f)

pub stop_lacks : (p : ℕ → Bool) → PassesWide p → (bytes : List ℕ) (j : ℕ) → IsUtf8 bytes → j < length bytes → p (get_or bytes j 0) ≡ false → LacksAt p bytes j
stop_lacks p wide bytes j u l f = rw (steps_ascii bytes j u l (small_failing p wide (get_or bytes j 0) f)).0 (ap not f)

pub wide_neither : (a b : ℕ) → a < 128 → b < 128 → PassesWide (is_neither a b)
wide_neither a b h k c l = grind arith

pub at_end : (bytes : List ℕ) (j : ℕ) → j ≤ length bytes → length bytes ≤ j → IsCharBoundary bytes j
at_end bytes j h l = let e : length bytes ≡ j = omega arith in let P : ℕ → Type 0 = λ k. IsCharBoundary bytes k in subst P e (IsCharBoundary-end bytes)

-- a run of bytes up to one of two characters of ASCII, as characters
pub run_stops : (a b : ℕ) (bytes : List ℕ) (i j : ℕ) → (a < 128) × (b < 128) → IsUtf8 bytes → IsCharBoundary bytes i → RunsTo (is_neither a b) bytes i j
    → Reaches (Many (is_neither a b)) bytes i j × LacksAt (is_neither a b) bytes j
run_stops a b bytes i j small u from run =
    let wide = wide_neither a b small.0 small.1 in
    let passes : BytesPass (is_neither a b) bytes i j = record { order = run.order; within = run.within; pass = run.pass } in
    elim (cases_lt j (length bytes)) [
      | inl more ↦ (many_bytes _ wide bytes i j u from (stop_boundary _ wide bytes j more (run.stops more)) passes, stop_lacks _ wide bytes j u more (run.stops more))
      | inr past ↦ (many_bytes _ wide bytes i j u from (at_end bytes j run.within past) passes, no_at_end (is_neither a b) bytes j past)
    ]
