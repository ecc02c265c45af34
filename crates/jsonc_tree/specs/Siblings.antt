-- Who stands beside a node, and where a node can come between two others.
use Rattle.std.specs.Prelude.{◌≡◌, ◌≤◌, ◌+◌, ℕ, zero, suc, List, [], drop, length, reverse, slice_get, take, Option, None, Some}
use Rattle.jsonc_tree.specs.Tree.{Node, children_at, parent_at, place_at}
use Rattle.jsonc_tree.specs.Order.{with_parent}
use Rattle.jsonc_tree.specs.Changes.{CanJoin, Splices}

-- the children of a node's parent, the node among them
abbrev pub row_of : List Node → ℕ → List ℕ
row_of ns n = with_parent (parent_at ns n) (children_at ns)

-- the siblings after a node, nearest first
abbrev pub siblings_after : List Node → ℕ → List ℕ
siblings_after ns n = drop (place_at ns n + 1) (row_of ns n)

-- the siblings before a node, nearest first
abbrev pub siblings_before : List Node → ℕ → List ℕ
siblings_before ns n = reverse (take (place_at ns n) (row_of ns n))

-- the first of a list, if there is one
abbrev pub first : List ℕ → Option ℕ
first ms = slice_get ms 0

-- what stands before a gap of a row: nothing before the first
abbrev pub before : List ℕ → ℕ → Option ℕ
before xs zero = None
before xs (suc k) = slice_get xs k

-- these two stand before and behind the gap at this place of the container's row
pub record IsGap (ns : List Node) (c g : ℕ) (ahead_of behind : Option ℕ) : Type 0 where
  pub inside : g ≤ length (children_at ns c)
  pub front : ahead_of ≡ before (children_at ns c) g
  pub back : behind ≡ slice_get (children_at ns c) g

-- the container's row has such a gap
abbrev pub HasGap : List Node → ℕ → Option ℕ → Option ℕ → Type 0
HasGap ns c ahead_of behind = (g : ℕ) × IsGap ns c g ahead_of behind

-- the new nodes are the old ones, but that these have come into that gap
abbrev pub Fills : List Node → List Node → ℕ → Option ℕ → Option ℕ → List ℕ → Type 0
Fills old new c ahead_of behind xs = (g : ℕ) → IsGap old c g ahead_of behind → Splices old new c g g xs

-- these may come into such a gap
abbrev pub CanFill : List Node → ℕ → Option ℕ → Option ℕ → List ℕ → Type 0
CanFill ns c ahead_of behind xs = (g : ℕ) × IsGap ns c g ahead_of behind × CanJoin ns c g g xs

-- the new nodes are the old ones, but that this child of the container is none any more
abbrev pub TakesOut : List Node → List Node → ℕ → ℕ → Type 0
TakesOut old new c n = Splices old new c (place_at old n) (suc (place_at old n)) []

-- these may take the place of this child
abbrev pub CanReplace : List Node → ℕ → List ℕ → Type 0
CanReplace ns n xs = (c : ℕ) × (parent_at ns n ≡ Some c) × CanJoin ns c (place_at ns n) (place_at ns n + 1) xs

-- the new nodes are the old ones, but that these are in the place of this child
abbrev pub Replaces : List Node → List Node → ℕ → List ℕ → Type 0
Replaces old new n xs = (c : ℕ) → parent_at old n ≡ Some c → Splices old new c (place_at old n) (place_at old n + 1) xs

-- both are children of the container, and the last is the first or behind it
pub record IsStretch (ns : List Node) (c first last : ℕ) : Type 0 where
  pub front : parent_at ns first ≡ Some c
  pub back : parent_at ns last ≡ Some c
  pub order : place_at ns first ≤ place_at ns last

-- the new nodes are the old ones, but that the container's children from the first to the last are none any more
abbrev pub TakesStretch : List Node → List Node → ℕ → ℕ → ℕ → Type 0
TakesStretch old new c first last = Splices old new c (place_at old first) (place_at old last + 1) []
