-- The text of a worked row.
use Rattle.std.specs.Prelude.{ℕ, List, [], ◌∷◌}

-- `a`, `"`, `\`, U+0001 and U+007F
abbrev pub mixed : List ℕ
mixed = 0x61 ∷ 0x22 ∷ 0x5C ∷ 0x01 ∷ 0x7F ∷ []
