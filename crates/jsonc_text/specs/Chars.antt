-- One character of a text, by the places before and after it.
use Rattle.std.specs.Prelude.{ℕ, ◌≡◌, List, ◌∷◌, IsCharBoundary}
use Rattle.jsonc_text.specs.Text.{rest}

-- from the place i to the place j stands the one character c
abbrev pub Steps : List ℕ → ℕ → ℕ → ℕ → Type 0
Steps bytes i c j = (rest bytes i ≡ c ∷ rest bytes j) × IsCharBoundary bytes j
