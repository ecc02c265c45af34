-- A loop that passes one character after another, by the length of the next one that passes.
use Rattle.std.proofs.Common.{ℕ, ◌+◌, ◌<◌, ◌≤◌, ◌≡◌, Bool, List, IsTrue, IsCharBoundary, arith}
use Rattle.jsonc_text.specs.Text.{rest, next, no, Many, stop, step}
use Rattle.jsonc_text.specs.Chars.{Steps}
use Rattle.jsonc_text.proofs.CharacterSteps.{many_append}

-- at a place no character passes
abbrev pub PassesNone : (ℕ → Bool) → List ℕ → ℕ → Type 0
PassesNone p text place = IsTrue (no p (next (rest text place)))

-- one of this length does
abbrev pub PassesOne : (ℕ → Bool) → List ℕ → ℕ → ℕ → Type 0
PassesOne p text place len = (c : ℕ) × IsTrue (p c) × Steps text place c (place + len)

-- characters that pass so far, and what the length says of the one at the place
pub record Passes (p : ℕ → Bool) (text : List ℕ) (start place len : ℕ) : Type 0 where
  pub boundary : IsCharBoundary text place
  pub order : start ≤ place
  pub many : Many p (rest text start) (rest text place)
  pub none : len ≡ 0 → PassesNone p text place
  pub some : 0 < len → PassesOne p text place len

pub passes_start : (p : ℕ → Bool) (text : List ℕ) (start len : ℕ) → IsCharBoundary text start → (len ≡ 0 → PassesNone p text start) → (0 < len → PassesOne p text start len) → Passes p text start start len
passes_start p text start len b none some = record { boundary = b; order = omega arith; many = stop; none = none; some = some }

pub passes_more : (p : ℕ → Bool) (text : List ℕ) (start place len more : ℕ) → Passes p text start place len → 0 < len → (more ≡ 0 → PassesNone p text (place + len)) → (0 < more → PassesOne p text (place + len) more) → Passes p text start (place + len) more
passes_more p text start place len more held long none some =
    let one = held.some long in
    record {
      boundary = one.2.1;
      order = omega (arith, held.order);
      many = many_append held.many (rw one.2.0 (step one.1 stop));
      none = none;
      some = some;
    }
