-- The lines of a text, as lists of bytes.
use Rattle.std.specs.Prelude.{◌≡◌, ◌≢◌, ◌++◌, ℕ, List, [], ◌∷◌}
use Rattle.std.specs.List.{All}

-- the first line of a text, and what follows it: the line ends with the first line feed, or is the whole text, where there is none
pub data IsFirstLine (line rest text : List ℕ) : Type 0 where
  ended : (s : List ℕ) → All (λ b. b ≢ 0x0A) s → line ≡ s ++ (0x0A ∷ []) → text ≡ line ++ rest → IsFirstLine line rest text
  last : All (λ b. b ≢ 0x0A) text → text ≢ [] → line ≡ text → rest ≡ [] → IsFirstLine line rest text

-- these are the lines of a text
abbrev pub AreLines : List (List ℕ) → List ℕ → Type 0
AreLines [] text = text ≡ []
AreLines (line ∷ lines) text = (rest : List ℕ) × IsFirstLine line rest text × AreLines lines rest
