-- Locality: what stays around a value, or a property, that is replaced.
use Rattle.std.specs.Prelude.{◌≡◌, ℕ, false, List, Some}
use Rattle.jsonc_text.specs.Plain.{Plain}
use Rattle.jsonc_text.specs.declared.edit.Shape.{Shape}
use Rattle.jsonc_tree.specs.Content.{Content}
use Rattle.jsonc_tree.specs.OrderedTree.{OrderedTree, leaves, ordered_tree}
use Rattle.jsonc_tree.specs.Tree.{Node, content_at, parent_at}
use Rattle.jsonc_layout.specs.from_input.Laid.{laid}
use Rattle.jsonc_layout.specs.nodes.Properties.{value_at}
use Rattle.jsonc_sound.specs.ChangeLaws.{DiffersIn}
use Rattle.jsonc_sound.specs.TreeChanges.{leaves_of}
use Rattle.jsonc_edit.specs.Changes.{top_at}
use Rattle.jsonc_edit.specs.Paths.{IsAt}
use Rattle.jsonc_edit.specs.Reading.{layout_for}
use Rattle.jsonc_edit.specs.Spaced.{SpacesPut}
use Rattle.jsonc_edit.specs.set.Giving.{property_top}
use Rattle.jsonc_edit.specs.set.Shapes.{empty_of, is_of}

-- spaces have been inserted into the document, and then in one place of its leaves these have been replaced by those: all before and after stay
pub record LeavesReplaced (was now : List Content) (old new : OrderedTree) : Type 0 where
  pub spaced : OrderedTree
  pub spaces : SpacesPut old spaced
  pub around : DiffersIn was now (leaves spaced) (leaves new)

module _ (old new : List Node) where
  -- where n was at a path, its leaves have been replaced by those that v is laid out as, as the old nodes determine where n was
  abbrev pub StaysAroundValue : ℕ → Plain → Type 0
  StaysAroundValue n v =
      (path : List ℕ) (c : ℕ) → IsAt old path n → parent_at old n ≡ Some c
      → LeavesReplaced (leaves_of (top_at old n)) (leaves_of (laid (layout_for old c n) v)) (ordered_tree old 0) (ordered_tree new 0)

  -- so it is of the value that p, the root or a property, had
  abbrev pub HeldStaysAround : ℕ → Plain → Type 0
  HeldStaysAround p v = (n : ℕ) → value_at old p ≡ Some n → StaysAroundValue n v

  -- so it is where this was of another shape, and an empty value of the shape has replaced it
  abbrev pub HeldShapeStaysAround : Shape → ℕ → Type 0
  HeldShapeStaysAround shape p = (n : ℕ) → value_at old p ≡ Some n → is_of shape (content_at old n) ≡ false → StaysAroundValue n (empty_of shape)

  -- the node m is what this name and value are laid out as, as the old nodes determine where n was
  abbrev pub IsLaidProperty : ℕ → List ℕ → Plain → ℕ → Type 0
  IsLaidProperty n name v m = (c : ℕ) → parent_at old n ≡ Some c → top_at new m ≡ property_top (layout_for old c n) name v
