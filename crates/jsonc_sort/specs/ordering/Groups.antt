-- Groups of the places of a row: each begins at a place.
use Rattle.std.specs.Prelude.{ℕ, suc, Bool, List, [], ◌∷◌, if◌then◌else◌}

-- for each place of a row, from this number on, the place at which its group begins: itself, or where the group of the place before does
abbrev pub starts_from : ℕ → ℕ → List Bool → List ℕ
starts_from start place [] = []
starts_from start place (begins ∷ row) = if begins then place ∷ starts_from place (suc place) row else start ∷ starts_from start (suc place) row

abbrev pub group_starts : List Bool → List ℕ
group_starts row = starts_from 0 0 row
