-- From a comment that came in nodes to one that came in the text.
use Rattle.std.specs.Prelude.{ℕ, List, Option, IsTrue, chars}
use Rattle.jsonc_text.specs.Options.{Options}
use Rattle.jsonc_text.specs.Plain.{Plain}
use Rattle.jsonc_text.specs.Gaps.{IsComment}
use Rattle.jsonc_tree.specs.Content.{comment}
use Rattle.jsonc_tree.specs.OrderedTree.{ordered_tree}
use Rattle.jsonc_tree.specs.Tree.{Node, IsTree}
use Rattle.jsonc_sound.specs.Documents.{document_of}
use Rattle.jsonc_sound.specs.Lines.{is_line_comment}
use Rattle.jsonc_sound.specs.Shape.{IsText}
use Rattle.jsonc_sound.specs.SoundTrees.{SoundTree}
use Rattle.jsonc_edit.specs.commenting.Above as above
use Rattle.jsonc_edit.specs.commenting.Behind as behind
use Rattle.jsonc_edit.specs.commenting.Behind.{may_end_line}
use Rattle.jsonc_run.specs.Places.{IsEntryAt}
use Rattle.jsonc_run.specs.texts.Commenting.{ComesAbove, ComesBehind}

-- a comment that came above the entry at a path of a sound document whose options allow comments did so in its text, and the document is sound
abbrev pub AboveInText : Options → List Node → List Node → List ℕ → Type 0
AboveInText o old new text =
    IsTree old → SoundTree o (ordered_tree old 0) → IsTrue o.comments → IsText IsComment text → (path : List ℕ) (n : ℕ) → IsEntryAt old path n → above.ComesAbove old new n text
    → SoundTree o (ordered_tree new 0) × ((w : Option Plain) → ComesAbove path (chars text) (document_of o (ordered_tree old 0) w) (document_of o (ordered_tree new 0) w))

-- and one that came behind, if it is no line comment or its line ends there
abbrev pub BehindInText : Options → List Node → List Node → List ℕ → Type 0
BehindInText o old new text =
    IsTree old → SoundTree o (ordered_tree old 0) → IsTrue o.comments → IsText IsComment text → (path : List ℕ) (n : ℕ) → IsEntryAt old path n
    → (IsTrue (is_line_comment (comment text)) → IsTrue (may_end_line old n)) → behind.ComesBehind old new n text
    → SoundTree o (ordered_tree new 0) × ((w : Option Plain) → ComesBehind path (chars text) (document_of o (ordered_tree old 0) w) (document_of o (ordered_tree new 0) w))
