-- The change of one value of an ordered tree, at a path of places among elements.
use Rattle.std.specs.Prelude.{ℕ, suc, not, List, [], ◌∷◌, ◌++◌, IsTrue}
use Rattle.jsonc_tree.specs.Content.{Content, root, array, object, property}
use Rattle.jsonc_tree.specs.OrderedTree.{OrderedTree, Top, none, more, own_leaf, leaves}
use Rattle.jsonc_tree.specs.Values.{is_passed_over}

-- a node that is neither trivia nor a token: a value, a property or its name
abbrev pub IsElement : Content → Type 0
IsElement content = IsTrue (not (is_passed_over content))

-- the leaves of a node, in order
abbrev pub leaves_of : Top → List Content
leaves_of top = own_leaf top.content ++ leaves top.below

-- the second row is the first, but that the element at this place among its elements has been replaced by another
pub data ElementChanged (was now : Top) : ℕ → OrderedTree → OrderedTree → Type 0 where
  this_element : {after : OrderedTree} → IsElement was.content → IsElement now.content
      → ElementChanged was now 0 (more was.content was.below after) (more now.content now.below after)
  passed : {i : ℕ} {content : Content} {below x y : OrderedTree} → IsTrue (is_passed_over content)
      → ElementChanged was now i x y → ElementChanged was now i (more content below x) (more content below y)
  later_element : {i : ℕ} {content : Content} {below x y : OrderedTree} → IsElement content
      → ElementChanged was now i x y → ElementChanged was now (suc i) (more content below x) (more content below y)

-- the property of these rows holds a name, its element 0, and a value, its element 1; this has been replaced by another
abbrev pub HeldChanged : Top → Top → OrderedTree → OrderedTree → Type 0
HeldChanged was now x y = ElementChanged was now 1 x y

-- a property with this row
abbrev pub property_of : OrderedTree → Top
property_of below = record { content = property; below = below }

-- the second node is the first, but that the value at the path has been replaced by another
pub data ValueChanged (was now : Top) : List ℕ → Top → Top → Type 0 where
  itself : ValueChanged was now [] was now
  in_array : {i : ℕ} {path : List ℕ} {x y : Top} {row new : OrderedTree} → ElementChanged x y i row new → ValueChanged was now path x y
      → ValueChanged was now (i ∷ path) (record { content = array; below = row }) (record { content = array; below = new })
  in_object : {i : ℕ} {path : List ℕ} {x y : Top} {held given row new : OrderedTree}
      → ElementChanged (property_of held) (property_of given) i row new → HeldChanged x y held given
      → ValueChanged was now path x y
      → ValueChanged was now (i ∷ path) (record { content = object; below = row }) (record { content = object; below = new })

-- the second document is the first, but that the value at the path from the root's value has been replaced by another
pub data DocumentChanged (was now : Top) (path : List ℕ) : OrderedTree → OrderedTree → Type 0 where
  in_root : {x y : Top} {row new : OrderedTree} → ElementChanged x y 0 row new → ValueChanged was now path x y
      → DocumentChanged was now path (more root row none) (more root new none)
