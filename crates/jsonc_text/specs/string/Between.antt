-- What stands between two places of a text.
use Rattle.std.specs.Prelude.{ℕ, ◌≤◌, ◌<◌, Bool, List, IsCharBoundary, IsTrue, ◌==◌, ◌||◌, not}
use Rattle.jsonc_text.specs.Text.{rest, next, no}

-- from one place to another stands a piece such as R says
pub record Between (R : List ℕ → List ℕ → Type 0) (bytes : List ℕ) (start end : ℕ) : Type 0 where
  pub boundary : IsCharBoundary bytes end
  pub order : start < end
  pub piece : R (rest bytes start) (rest bytes end)

-- the same, where the piece may be empty
pub record Reaches (R : List ℕ → List ℕ → Type 0) (bytes : List ℕ) (start end : ℕ) : Type 0 where
  pub boundary : IsCharBoundary bytes end
  pub order : start ≤ end
  pub piece : R (rest bytes start) (rest bytes end)

-- no piece such as R says stands at a place
abbrev pub NoneFrom : (List ℕ → List ℕ → Type 0) → List ℕ → ℕ → Type 0
NoneFrom R bytes start = (r : List ℕ) → R (rest bytes start) r → ⊥

-- no character that passes the test stands at a place
abbrev pub LacksAt : (ℕ → Bool) → List ℕ → ℕ → Type 0
LacksAt p bytes place = IsTrue (no p (next (rest bytes place)))

-- neither of two characters
abbrev pub is_neither : ℕ → ℕ → ℕ → Bool
is_neither a b c = not (c == a || c == b)
