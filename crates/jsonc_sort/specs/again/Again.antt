-- A second sort of an array or object by the same order of what its elements are, each with what is below it, as their texts tell.
use Rattle.std.specs.Prelude.{◌≡◌, ◌<◌, ℕ, Bool, true, false, List, [], length, map, slice_index, IsTrue, Option, Some, None}
use Rattle.std.specs.Cmp.{IsStrictWeakOrder}
use Rattle.jsonc_tree.specs.Content.{Content}
use Rattle.jsonc_tree.specs.OrderedTree.{Top, more, none, printed}
use Rattle.jsonc_tree.specs.Tree.{Node, content_at, IsTree}
use Rattle.jsonc_layout.specs.nodes.Siblings.{elements_at}
use Rattle.jsonc_edit.specs.Changes.{top_at}
use Rattle.jsonc_edit.specs.remove.Removed.{has_brackets}
use Rattle.jsonc_sort.specs.ordering.Order.{comes_before, IsOrderedBy}
use Rattle.jsonc_sort.specs.Rearranged.{IsOrderIn, Rearranged}
use Rattle.jsonc_sort.specs.Sorting.{Headers}

-- the text of a node: what it prints, with what is below it
abbrev pub text_of_top : Top → List ℕ
text_of_top t = printed (more t.content t.below none)

-- the elements of c, read anew, are the old ones in the order, and each is what it was, with what is below it
pub record ElementsCome (old new : List Node) (c : ℕ) (order : List ℕ) : Type 0 where
  pub elements : elements_at new c ≡ map (slice_index (elements_at old c)) order
  pub same : (i : ℕ) → i < length (elements_at old c) → top_at new (slice_index (elements_at old c) i) ≡ top_at old (slice_index (elements_at old c) i)

-- so it is where they have come in the order, and c has its brackets
abbrev pub ComesInOrder : List Node → List Node → ℕ → Headers → List ℕ → Type 0
ComesInOrder old new c h order =
    IsTree old → c < length old → IsTrue (has_brackets old c) → IsOrderIn old c order → Rearranged old new c h order → ElementsCome old new c order

-- a node, where the order asks of it
abbrev pub top_if : Bool → Top → Option Top
top_if true t = Some t
top_if false t = None

-- the elements of c, where the order asks of what they are
abbrev pub tops_asked : (Content → Bool) → List Node → ℕ → List (Option Top)
tops_asked asked ns c = map (λ n. top_if (asked (content_at ns n)) (top_at ns n)) (elements_at ns c)

-- an order names the elements of c as they ascend, stably and without groups; those that are not asked come first
abbrev pub IsInOrderOf : (Top → Top → Bool) → (Content → Bool) → List Node → ℕ → List ℕ → Type 0
IsInOrderOf lt asked ns c order = IsOrderedBy (comes_before lt (tops_asked asked ns c) []) (length (elements_at ns c)) order

-- where the elements of c have come in an order of what they are, a second sort by it changes no node, whatever comments are pinned
abbrev pub SortsOnce : (Top → Top → Bool) → (Content → Bool) → List Node → List Node → List Node → ℕ → Headers → Headers → List ℕ → List ℕ → Type 0
SortsOnce lt asked old now new c h k order again =
    IsStrictWeakOrder lt → IsTree old → c < length old → IsInOrderOf lt asked old c order → Rearranged old now c h order
    → IsInOrderOf lt asked now c again → Rearranged now new c k again → new ≡ now

-- an order of their texts
abbrev pub by_texts : (List ℕ → List ℕ → Bool) → Top → Top → Bool
by_texts lt s t = lt (text_of_top s) (text_of_top t)

abbrev pub SortsTextsOnce : (List ℕ → List ℕ → Bool) → (Content → Bool) → List Node → List Node → List Node → ℕ → Headers → Headers → List ℕ → List ℕ → Type 0
SortsTextsOnce lt asked old now new c h k order again =
    IsStrictWeakOrder lt → IsTree old → c < length old → IsInOrderOf (by_texts lt) asked old c order → Rearranged old now c h order
    → IsInOrderOf (by_texts lt) asked now c again → Rearranged now new c k again → new ≡ now
