-- The order of the places of a row.
use Rattle.std.specs.Prelude.{ℕ, Bool, true, false, ◌&&◌, ◌||◌, ◌==◌, nat_lt, List, Option, Some, None, slice_index_or}
use Rattle.std.specs.List.{range_with_len}
use Rattle.std.specs.List.Sorted.{IsPermutation, IsSortedBy, IsStableBy}

-- where the group of a place begins, of a row that has groups; and the node at a place, if there is one
abbrev pub start_in : List ℕ → ℕ → ℕ
start_in starts i = slice_index_or starts i 0

abbrev pub node_in : {N : Type 0} → List (Option N) → ℕ → Option N
node_in nodes i = slice_index_or nodes i None

-- what is none comes before each node
abbrev pub option_before : {N : Type 0} → (N → N → Bool) → Option N → Option N → Bool
option_before lt (Some x) (Some y) = lt x y
option_before lt (Some x) None = false
option_before lt None (Some y) = true
option_before lt None None = false

-- the group of the first place does, or they are of one group and its node does
abbrev pub comes_before : {N : Type 0} → (N → N → Bool) → List (Option N) → List ℕ → ℕ → ℕ → Bool
comes_before lt nodes starts i j =
    nat_lt (start_in starts i) (start_in starts j) || ((start_in starts i == start_in starts j) && option_before lt (node_in nodes i) (node_in nodes j))

-- the order names each of so many places once; it ascends; and places of which neither comes before the other stay in their order
pub record IsOrderedBy (before : ℕ → ℕ → Bool) (count : ℕ) (order : List ℕ) : Type 0 where
  pub all : IsPermutation (range_with_len 0 count) order
  pub ascends : IsSortedBy before order
  pub stable : IsStableBy before (range_with_len 0 count) order
