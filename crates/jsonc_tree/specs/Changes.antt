-- What the changes of a tree do to its nodes.
use Rattle.std.specs.Prelude.{◌≡◌, ◌≢◌, ℕ, ◌+◌, ◌<◌, ◌⊎◌, true, List, [], ◌∷◌, ◌++◌, length, Option, Some, None, slice_index, slice_range, if◌then◌else◌}
use Rattle.std.specs.List.{splice}
use Rattle.jsonc_tree.specs.Content.{Content}
use Rattle.jsonc_tree.specs.Tree.{Node, node_at, content_at, parent_at, children_at, is_container_at, is_in, IsOver}

-- no number stands twice in the list
abbrev pub EachOnce : List ℕ → Type 0
EachOnce xs = (a b : ℕ) → a < length xs → b < length xs → slice_index xs a ≡ slice_index xs b → a ≡ b

-- a node that is put in gets the container as its parent, one that was replaced has none, and any other keeps its own
abbrev pub parent_after : List Node → ℕ → ℕ → ℕ → List ℕ → ℕ → Option ℕ
parent_after ns c i j xs n =
    if is_in n xs then Some c else (if is_in n (slice_range (children_at ns c) i j) then None else parent_at ns n)

-- the new nodes are the old ones, but that the container's children from i up to j have been replaced by these
pub record Splices (old new : List Node) (c i j : ℕ) (xs : List ℕ) : Type 0 where
  pub len : length new ≡ length old
  pub content : (n : ℕ) → content_at new n ≡ content_at old n
  pub children : children_at new c ≡ splice (children_at old c) i j xs
  pub others : (n : ℕ) → n ≢ c → children_at new n ≡ children_at old n
  pub parents : (n : ℕ) → parent_at new n ≡ parent_after old c i j xs n

-- the node has no parent, or is among the children that give way
abbrev pub IsFree : List Node → ℕ → ℕ → ℕ → ℕ → Type 0
IsFree ns c i j n = (parent_at ns n ≡ None) ⊎ (is_in n (slice_range (children_at ns c) i j) ≡ true)

-- What a splice asks of the nodes that are put in: none is the root, none stands there twice, each has no parent or is among the children that give way, and
-- none is over the container.
pub record CanJoin (ns : List Node) (c i j : ℕ) (xs : List ℕ) : Type 0 where
  pub in_tree : (k : ℕ) → k < length xs → slice_index xs k < length ns
  pub not_root : (k : ℕ) → k < length xs → slice_index xs k ≢ 0
  pub once : EachOnce xs
  pub free : (k : ℕ) → k < length xs → IsFree ns c i j (slice_index xs k)
  pub not_over : (k : ℕ) → k < length xs → IsOver ns (slice_index xs k) c → ⊥

-- What an append asks of the container and the node: both are there, the one is a container, and the other, which isn't the root, has no parent and is not
-- over the container.
pub record CanAppend (ns : List Node) (c n : ℕ) : Type 0 where
  pub container : c < length ns
  pub holds : is_container_at ns c ≡ true
  pub node : n < length ns
  pub not_root : n ≢ 0
  pub alone : parent_at ns n ≡ None
  pub not_over : IsOver ns n c → ⊥

-- the new nodes are the old ones, but that this one is the container's last child
pub record Appends (old new : List Node) (c n : ℕ) : Type 0 where
  pub len : length new ≡ length old
  pub content : (m : ℕ) → content_at new m ≡ content_at old m
  pub children : children_at new c ≡ children_at old c ++ n ∷ []
  pub others : (m : ℕ) → m ≢ c → children_at new m ≡ children_at old m
  pub parent : parent_at new n ≡ Some c
  pub parents : (m : ℕ) → m ≢ n → parent_at new m ≡ parent_at old m

-- there is one more node, without parent and children
pub record Adds (old new : List Node) (content : Content) : Type 0 where
  pub len : length new ≡ length old + 1
  pub last : content_at new (length old) ≡ content
  pub bare : (parent_at new (length old) ≡ None) × (children_at new (length old) ≡ [])
  pub rest : (n : ℕ) → n < length old → node_at new n ≡ node_at old n

-- the nodes are as they were, but that one leaf is now this
pub record LeafBecomes (old new : List Node) (leaf : ℕ) (now : Content) : Type 0 where
  pub len : length new ≡ length old
  pub content : content_at new leaf ≡ now
  pub others : (n : ℕ) → n ≢ leaf → content_at new n ≡ content_at old n
  pub parent : (n : ℕ) → parent_at new n ≡ parent_at old n
  pub children : (n : ℕ) → children_at new n ≡ children_at old n

-- there is one more node, the container's last child, without children
pub record Pushes (old new : List Node) (c : ℕ) (content : Content) : Type 0 where
  pub len : length new ≡ length old + 1
  pub last : content_at new (length old) ≡ content
  pub bare : children_at new (length old) ≡ []
  pub parent : parent_at new (length old) ≡ Some c
  pub children : children_at new c ≡ children_at old c ++ length old ∷ []
  pub contents : (m : ℕ) → m < length old → content_at new m ≡ content_at old m
  pub parents : (m : ℕ) → m < length old → parent_at new m ≡ parent_at old m
  pub others : (m : ℕ) → m < length old → m ≢ c → children_at new m ≡ children_at old m
