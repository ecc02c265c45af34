-- A row that is being planned: its places so far, and the nodes that fill them.
use Rattle.std.specs.Prelude.{◌≡◌, ◌<◌, ◌≤◌, ◌+◌, ◌-◌, ◌⊎◌, ℕ, Bool, true, false, List, [], ◌∷◌, ◌++◌, length, slice_index, Some, None}
use Rattle.jsonc_tree.specs.Building.{Keeps}
use Rattle.jsonc_tree.specs.Changes.{EachOnce}
use Rattle.jsonc_tree.specs.Tree.{Node, children_at, parent_at, place_at, IsTree}
use Rattle.jsonc_layout.specs.nodes.Kinds.{is_whitespace_at, is_comma_at}
use Rattle.jsonc_edit.specs.multiline.Slots.{Slot, stays, AreFilled}
use Rattle.jsonc_edit.specs.multiline.Lines.{Lines, new_line, spread_row}

-- a child of c between its first and this place, or a node made since
abbrev pub IsFrom : List Node → List Node → ℕ → ℕ → ℕ → Type 0
IsFrom old now c place n = ((parent_at old n ≡ Some c) × (0 < place_at old n) × (place_at old n < place)) ⊎ ((length old ≤ n) × (n < length now)
    × (parent_at now n ≡ None))

-- The row of c has been planned up to this place of it. Nothing that was there has changed.
pub record Planned (old now : List Node) (c place : ℕ) (slots : List Slot) (row : List ℕ) : Type 0 where
  pub tree : IsTree now
  pub keeps : Keeps (length old) old now
  pub filled : AreFilled old now slots row
  pub from : (k : ℕ) → k < length row → IsFrom old now c place (slice_index row k)
  pub once : EachOnce row

-- whatever was planned is planned still, with these leaves behind it and a further child of c behind these
abbrev pub GainsChild : List Node → List ℕ → List Node → List ℕ → ℕ → List Slot → Type 0
GainsChild now row later next n more =
    (old : List Node) (c place : ℕ) (slots : List Slot) → IsTree old → Planned old now c place slots row → parent_at old n ≡ Some c → 0 < place_at old n
    → place ≤ place_at old n → Planned old later c (place_at old n + 1) (slots ++ more) next

-- what a child of the row makes of it, where a part begins or goes on: whitespace that it begins with leaves, and its first node begins a line
abbrev pub child_slots : Lines → Bool → Bool → ℕ → List Slot
child_slots lines true true n = []
child_slots lines true false n = new_line lines ++ stays n ∷ []
child_slots lines false blank n = stays n ∷ []

-- whether a part begins behind it
abbrev pub begins_behind : Bool → Bool → Bool → Bool
begins_behind true true comma = true
begins_behind begins blank comma = comma

-- the same of the node by its number
abbrev pub PutsChild : List Node → List ℕ → List Node → List ℕ → Lines → Bool → ℕ → Type 0
PutsChild now row later next lines begins n = GainsChild now row later next n (child_slots lines begins (is_whitespace_at now n) n)

abbrev pub begins_after : List Node → Bool → ℕ → Bool
begins_after ns begins n = begins_behind begins (is_whitespace_at ns n) (is_comma_at ns n)

-- a whole row, and that of c on several lines
abbrev pub PlannedRow : List Node → List Node → ℕ → List Slot → List ℕ → Type 0
PlannedRow old now c slots row = Planned old now c (length (children_at old c) - 1) slots row

abbrev pub PlansLines : List Node → List Node → ℕ → Lines → List ℕ → Type 0
PlansLines old now c lines row = PlannedRow old now c (spread_row lines old c) row
