-- What becomes of a document's literals and comments, as they are written, where a value is set.
use Rattle.std.specs.Prelude.{◌≡◌, ℕ, false, List, Some}
use Rattle.jsonc_text.specs.Plain.{Plain}
use Rattle.jsonc_text.specs.declared.edit.Shape.{Shape}
use Rattle.jsonc_tree.specs.OrderedTree.{ordered_tree}
use Rattle.jsonc_tree.specs.Tree.{Node, content_at}
use Rattle.jsonc_layout.specs.from_input.Texts.{IsOfTexts}
use Rattle.jsonc_layout.specs.nodes.Properties.{value_at}
use Rattle.jsonc_sound.specs.MarkChanges.{MarksDifferIn, marks_under}
use Rattle.jsonc_sound.specs.Marks.{Mark, marks}
use Rattle.jsonc_sound.specs.Written.{written}
use Rattle.jsonc_edit.specs.Changes.{top_at}
use Rattle.jsonc_edit.specs.Paths.{IsAt}
use Rattle.jsonc_edit.specs.set.Shapes.{empty_of, is_of}

module _ (old new : List Node) where
  -- one stretch of the marks has been replaced by another, and all others stay, in order
  abbrev pub MarksReplaced : List Mark → List Mark → Type 0
  MarksReplaced was now = MarksDifferIn was now (marks (ordered_tree old 0)) (marks (ordered_tree new 0))

  -- where n was at a path, its marks have been replaced by the literals that are written for v
  abbrev pub IsMarkedFor : ℕ → Plain → Type 0
  IsMarkedFor n v = (path : List ℕ) → IsAt old path n → IsOfTexts v → MarksReplaced (marks_under (top_at old n)) (written v)

  -- so it is of the value that p, the root or a property, had
  abbrev pub HeldIsMarked : ℕ → Plain → Type 0
  HeldIsMarked p v = (n : ℕ) → value_at old p ≡ Some n → IsMarkedFor n v

  -- so it is where this was of another shape, and an empty value of the shape has replaced it
  abbrev pub HeldShapeIsMarked : Shape → ℕ → Type 0
  HeldShapeIsMarked shape p = (n : ℕ) → value_at old p ≡ Some n → is_of shape (content_at old n) ≡ false → IsMarkedFor n (empty_of shape)
