-- What the nodes are where the elements of an array or object have come in another order.
use Rattle.std.specs.Prelude.{◌≡◌, ◌≢◌, ◌<◌, ℕ, Bool, false, not, ◌&&◌, List, length, IsPermutation, IsTrue, Option, Some}
use Rattle.std.specs.List.{range_with_len}
use Rattle.jsonc_tree.specs.Tree.{Node, children_at, content_at, parent_at, IsTree}
use Rattle.jsonc_layout.specs.nodes.Siblings.{elements_at}
use Rattle.jsonc_layout.specs.lines.Breadth.{newline_kind_at}
use Rattle.jsonc_edit.specs.remove.Removed.{has_brackets}
use Rattle.jsonc_edit.specs.multiline.Lines.{between}
use Rattle.jsonc_edit.specs.multiline.Multiline.{TakesRow}
use Rattle.jsonc_edit.specs.multiline.Plans.{PlannedRow}
use Rattle.jsonc_sort.specs.Laws.{is_filling}
use Rattle.jsonc_sort.specs.Plans.{times}
use Rattle.jsonc_sort.specs.Slots.{Slot}
use Rattle.jsonc_sort.specs.Sorting.{Headers, is_unchanged, sorted}

-- how many comments are pinned before each element, and whether blank lines part the elements
abbrev pub headers_of : List (Option ℕ) → Bool → Headers
headers_of pinned groups = record { pinned = pinned; groups = groups }

-- the order names each element of c once, by its number among them
abbrev pub IsOrderIn : List Node → ℕ → List ℕ → Type 0
IsOrderIn ns c order = IsPermutation (range_with_len 0 (length (elements_at ns c))) order

-- something moves: c has its brackets, and the order is not the old one
abbrev pub moves : List Node → ℕ → List ℕ → Bool
moves ns c order = has_brackets ns c && not (is_unchanged order)

-- what stands between the brackets of c once its elements come in an order
abbrev pub row_sorted : List Node → ℕ → Headers → List ℕ → List Slot
row_sorted ns c h order = sorted (content_at ns) (newline_kind_at ns c) h (between (children_at ns c)) order

-- the elements of c have come in this order; where nothing moves, all nodes are as they were
pub record Rearranged (old new : List Node) (c : ℕ) (h : Headers) (order : List ℕ) : Type 0 where
  pub was : moves old c order ≡ false → new ≡ old
  pub is : IsTrue (moves old c order) → TakesRow old new c (row_sorted old c h order)

-- its row is planned: the places, and the nodes that fill them
abbrev pub PlansSort : List Node → List Node → ℕ → Headers → List ℕ → List ℕ → Type 0
PlansSort old now c h order row = PlannedRow old now c (row_sorted old c h order) row

-- Each child of c that is no whitespace, end of a line or comma, comments and brackets too, is its child still, and once; and every other node that was there
-- has the children that it had.
pub record KeepsChildren (old new : List Node) (c : ℕ) : Type 0 where
  pub own : (n : ℕ) → parent_at old n ≡ Some c → is_filling (content_at old n) ≡ false → (parent_at new n ≡ Some c) × (times n (children_at new c) ≡ 1)
  pub others : (k : ℕ) → k < length old → k ≢ c → children_at new k ≡ children_at old k
  pub contents : (k : ℕ) → k < length old → content_at new k ≡ content_at old k

-- so it is where the elements of c have come in an order
abbrev pub SortsChildren : List Node → List Node → ℕ → Headers → List ℕ → Type 0
SortsChildren old new c h order = IsTree old → IsTree new → IsOrderIn old c order → Rearranged old new c h order → KeepsChildren old new c
