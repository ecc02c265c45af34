-- The entry at a path of a document, and the leaves before it and behind it.
use Rattle.std.specs.Prelude.{ℕ, List, [], ◌∷◌, ◌++◌}
use Rattle.jsonc_tree.specs.Content.{Content, array}
use Rattle.jsonc_tree.specs.OrderedTree.{OrderedTree, Top}
use Rattle.jsonc_sound.specs.TreeChanges.{property_of}
use Rattle.jsonc_edit.specs.SeamPlaces.{RowHolds, DocumentHolds}
use Rattle.jsonc_edit.specs.SeamEntries.{PropertyHolds}

-- it is the document's value, an element of an array, or a property of an object
pub data EntryHolds : Top → List ℕ → OrderedTree → List Content → List Content → Type 0 where
  the_value : {top : Top} {t : OrderedTree} {f b : List Content} → DocumentHolds top [] t f b → EntryHolds top [] t f b
  an_element : {top : Top} (path : List ℕ) (i : ℕ) {row t : OrderedTree} {f g b c : List Content} → DocumentHolds (record { content = array; below = row }) path t f b → RowHolds top i row g c
      → EntryHolds top (path ++ i ∷ []) t (f ++ g) (c ++ b)
  a_property : {held : OrderedTree} (path : List ℕ) (i : ℕ) {t : OrderedTree} {f b : List Content} → PropertyHolds held path i t f b → EntryHolds (property_of held) (path ++ i ∷ []) t f b
