-- The byte order mark of UTF-8.
use Rattle.std.specs.Prelude.{ℕ, List, ◌∷◌, ◌&&◌, nat_eq, if◌then◌else◌}

-- 3 where the bytes begin with EF BB BF, else 0
abbrev pub mark_length : List ℕ → ℕ
mark_length (a ∷ (b ∷ (c ∷ rest))) = if nat_eq a 239 && (nat_eq b 187 && nat_eq c 191) then 3 else 0
mark_length other = 0
