-- The document as an ordered tree, with no numbers: what values, printed text and soundness are defined on.
use Rattle.std.specs.Prelude.{ℕ, zero, suc, List, [], ◌∷◌, ◌++◌, length, map, if◌then◌else◌}
use Rattle.std.specs.List.{flat_map}
use Rattle.jsonc_tree.specs.Content.{Content, is_container, text_of}
use Rattle.jsonc_tree.specs.Tree.{Node, children_at, content_at}

-- trees in a row: none, or a first one, with what its top is and the trees below that, and those after it
pub data OrderedTree : Type 0 where
  none : OrderedTree
  more : Content → OrderedTree → OrderedTree → OrderedTree

-- a node: what it is, and the row below it
pub record Top : Type 0 where
  pub content : Content
  pub below : OrderedTree

-- a leaf is its own only leaf
abbrev pub own_leaf : Content → List Content
own_leaf content = if is_container content then [] else content ∷ []

-- what its leaves are, in order
abbrev pub leaves : OrderedTree → List Content
leaves none = []
leaves (more content below after) = own_leaf content ++ (leaves below ++ leaves after)

-- the texts of its leaves, a piece for each, in order
abbrev pub pieces : OrderedTree → List (List ℕ)
pieces t = map text_of (leaves t)

-- the bytes that it prints: the texts of its leaves, joined
abbrev pub printed : OrderedTree → List ℕ
printed t = flat_map text_of (leaves t)

-- one row of trees and then another
abbrev pub followed_by : OrderedTree → OrderedTree → OrderedTree
followed_by none next = next
followed_by (more content below after) next = more content below (followed_by after next)

-- these numbers of nodes, in this order, stand for this row of trees
pub data Shows (ns : List Node) : List ℕ → OrderedTree → Type 0 where
  shows_none : Shows ns [] none
  shows_more : {n : ℕ} {rest : List ℕ} {below after : OrderedTree} → Shows ns (children_at ns n) below
      → Shows ns rest after → Shows ns (n ∷ rest) (more (content_at ns n) below after)

-- the second row is the first, but that in one place below a node one row has been replaced by another
pub data Replaced (was now : OrderedTree) : OrderedTree → OrderedTree → Type 0 where
  here : {content : Content} {after : OrderedTree} → Replaced was now (more content was after) (more content now after)
  deeper : {content : Content} {x y after : OrderedTree} → Replaced was now x y → Replaced was now (more content x after) (more content y after)
  later : {content : Content} {below x y : OrderedTree} → Replaced was now x y → Replaced was now (more content below x) (more content below y)

-- a tree for each number
abbrev pub plant : (ℕ → Content) → (ℕ → OrderedTree) → List ℕ → OrderedTree
plant content below [] = none
plant content below (n ∷ ns) = more (content n) (below n) (plant content below ns)

-- the trees below a node, down to a depth
abbrev pub grown : ℕ → List Node → ℕ → OrderedTree
grown zero ns n = none
grown (suc depth) ns n = plant (content_at ns) (grown depth ns) (children_at ns n)

-- the ordered tree of a node: no node is deeper than there are nodes
unfoldable pub ordered_tree : List Node → ℕ → OrderedTree
ordered_tree ns n = more (content_at ns n) (grown (length ns) ns n) none
