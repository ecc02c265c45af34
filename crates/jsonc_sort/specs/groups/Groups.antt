-- Groups of a row as stretches of its places: each from where a group begins up to where the next one does, or the row ends.
use Rattle.std.specs.Prelude.{◌≡◌, ◌<◌, ◌≤◌, ◌-◌, ℕ, Bool, true, false, List, length, slice_index, slice_index_or, slice_range, IsPermutation, Option}
use Rattle.std.specs.List.{range_with_len}
use Rattle.jsonc_sort.specs.ordering.Groups.{group_starts}
use Rattle.jsonc_sort.specs.ordering.Order.{comes_before, start_in, IsOrderedBy}

-- whether it is told that a group begins at the place
abbrev pub begins_at : List Bool → ℕ → Bool
begins_at row i = slice_index_or row i false

-- the places from one up to another are a group: it begins at the first of them and none does at the others, and the next one begins behind them, or none does
pub record IsStretch (row : List Bool) (from upto : ℕ) : Type 0 where
  pub some : from < upto
  pub within : upto ≤ length row
  pub front : 0 < from → begins_at row from ≡ true
  pub inner : (i : ℕ) → from < i → i < upto → begins_at row i ≡ false
  pub behind : upto < length row → begins_at row upto ≡ true

-- at the places of each group the order names these places, each once
abbrev pub KeepsStretches : List Bool → List ℕ → Type 0
KeepsStretches row order = (from upto : ℕ) → IsStretch row from upto → IsPermutation (range_with_len from (upto - from)) (slice_range order from upto)

-- at each place it names one whose group begins where that of the place does
abbrev pub StaysInGroups : List Bool → List ℕ → Type 0
StaysInGroups row order = (i : ℕ) → i < length row → start_in (group_starts row) (slice_index order i) ≡ start_in (group_starts row) i

-- so it is of an order that goes by groups first
module _ {N : Type 0} where
  abbrev pub IsInGroups : (N → N → Bool) → List (Option N) → List Bool → List ℕ → Type 0
  IsInGroups lt nodes row order = IsOrderedBy (comes_before lt nodes (group_starts row)) (length row) order

  abbrev pub GroupsStay : (N → N → Bool) → List (Option N) → List Bool → List ℕ → Type 0
  GroupsStay lt nodes row order = IsInGroups lt nodes row order → StaysInGroups row order

  abbrev pub StretchesStay : (N → N → Bool) → List (Option N) → List Bool → List ℕ → Type 0
  StretchesStay lt nodes row order = IsInGroups lt nodes row order → KeepsStretches row order
