-- The value at a path of an ordered tree, and the leaves before it and behind it.
use Rattle.std.specs.Prelude.{◌≡◌, ℕ, suc, Bool, true, List, [], ◌∷◌, ◌++◌, IsTrue}
use Rattle.jsonc_text.specs.Options.{Options}
use Rattle.jsonc_tree.specs.Content.{Content, root, array, object}
use Rattle.jsonc_tree.specs.OrderedTree.{OrderedTree, none, more, own_leaf, leaves, Top}
use Rattle.jsonc_tree.specs.Values.{is_passed_over}
use Rattle.jsonc_sound.specs.Adjacent.{last_printed}
use Rattle.jsonc_sound.specs.SoundTrees.{SoundTree}
use Rattle.jsonc_sound.specs.Spaces.{first_printed, is_bare, is_bare_leaf}
use Rattle.jsonc_sound.specs.TreeChanges.{IsElement, property_of}
use Rattle.jsonc_edit.specs.Seams.{PrintNothing, space_if}

-- the element of this number in the row is this node: before it in the row stand these leaves, and behind it those
pub data RowHolds (top : Top) : ℕ → OrderedTree → List Content → List Content → Type 0 where
  this_element : {after : OrderedTree} → IsElement top.content → RowHolds top 0 (more top.content top.below after) [] (leaves after)
  past_other : {i : ℕ} {content : Content} {below x : OrderedTree} {f b : List Content} → IsTrue (is_passed_over content) → RowHolds top i x f b
      → RowHolds top i (more content below x) (own_leaf content ++ (leaves below ++ f)) b
  past_element : {i : ℕ} {content : Content} {below x : OrderedTree} {f b : List Content} → IsElement content → RowHolds top i x f b
      → RowHolds top (suc i) (more content below x) (own_leaf content ++ (leaves below ++ f)) b

-- so the value at a path in a node
pub data ValueHolds (top : Top) : List ℕ → Top → List Content → List Content → Type 0 where
  itself : ValueHolds top [] top [] []
  in_array : {i : ℕ} {path : List ℕ} {x : Top} {row : OrderedTree} {f g b c : List Content} → RowHolds x i row f b → ValueHolds top path x g c
      → ValueHolds top (i ∷ path) (record { content = array; below = row }) (f ++ g) (c ++ b)
  in_object : {i : ℕ} {path : List ℕ} {x : Top} {held row : OrderedTree} {f g h b c d : List Content} → RowHolds (property_of held) i row f b → RowHolds x 1 held g c
      → ValueHolds top path x h d → ValueHolds top (i ∷ path) (record { content = object; below = row }) (f ++ (g ++ h)) ((d ++ c) ++ b)

-- and in a document
pub data DocumentHolds (top : Top) (path : List ℕ) : OrderedTree → List Content → List Content → Type 0 where
  in_root : {x : Top} {row : OrderedTree} {f g b c : List Content} → RowHolds x 0 row f b → ValueHolds top path x g c
      → DocumentHolds top path (more root row none) (f ++ g) (c ++ b)

-- The value at the path has been replaced by another, and nothing else has changed but that spaces have come at the seams: before it one or none, and behind it one
-- or none, directly before what is printed next. In a sound document each of them parts two literals without quotes: the new value, and what is printed next to it.
pub record ReplacedWithSeams (path : List ℕ) (was now : Top) (t u : OrderedTree) : Type 0 where
  pub front : List Content
  pub quiet : List Content
  pub rest : List Content
  pub before : Bool
  pub behind : Bool
  pub silent : PrintNothing quiet
  pub stood : DocumentHolds was path t front (quiet ++ rest)
  pub stands : DocumentHolds now path u (front ++ space_if before) (quiet ++ (space_if behind ++ rest))
  pub parts_before : (o : Options) → SoundTree o t → before ≡ true → (is_bare now.content ≡ true) × (is_bare_leaf (last_printed front) ≡ true)
  pub parts_behind : (o : Options) → SoundTree o t → behind ≡ true → (is_bare now.content ≡ true) × (is_bare_leaf (first_printed (quiet ++ rest)) ≡ true)
