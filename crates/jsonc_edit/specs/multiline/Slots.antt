-- What the row of a container becomes: which children stay, and which leaves come among them.
use Rattle.std.specs.Prelude.{◌≡◌, ◌<◌, ◌≤◌, ℕ, List, [], ◌∷◌, length, None}
use Rattle.jsonc_tree.specs.Content.{Content}
use Rattle.jsonc_tree.specs.OrderedTree.{OrderedTree, Top, none, more}
use Rattle.jsonc_tree.specs.Tree.{Node, content_at, parent_at}
use Rattle.jsonc_edit.specs.Changes.{top_at}

-- a place of a new row: a child that stays, or a leaf that comes
pub data Slot : Type 0 where
  stays : ℕ → Slot
  comes : Content → Slot

-- the node that stands there, with what is below it
abbrev pub top_in : List Node → Slot → Top
top_in ns (stays n) = top_at ns n
top_in ns (comes content) = record { content = content; below = none }

-- the row of trees that stand in these places
abbrev pub row_in : List Node → List Slot → OrderedTree
row_in ns [] = none
row_in ns (slot ∷ rest) = more (top_in ns slot).content (top_in ns slot).below (row_in ns rest)

-- These nodes fill the places of a row: a child that stays its own, and each leaf that comes is a new node of this content, detached yet.
pub data AreFilled (old ready : List Node) : List Slot → List ℕ → Type 0 where
  no_more : AreFilled old ready [] []
  stayed : {n : ℕ} {slots : List Slot} {row : List ℕ} → AreFilled old ready slots row → AreFilled old ready (stays n ∷ slots) (n ∷ row)
  came : {n : ℕ} {content : Content} {slots : List Slot} {row : List ℕ} → length old ≤ n → n < length ready → content_at ready n ≡ content
      → parent_at ready n ≡ None → AreFilled old ready slots row → AreFilled old ready (comes content ∷ slots) (n ∷ row)
