-- Documents of the grammar, as sound trees print them.
use Rattle.std.specs.Prelude.{◌≡◌, ℕ, List, [], ◌∷◌, Option}
use Rattle.jsonc_text.specs.Options.{Options}
use Rattle.jsonc_text.specs.Plain.{Plain}
use Rattle.jsonc_text.specs.Marks.{Mark}
use Rattle.jsonc_text.specs.Documents.{Document}
use Rattle.jsonc_tree.specs.OrderedTree.{OrderedTree}
use Rattle.jsonc_tree.specs.Values.{DocumentValueOf}
use Rattle.jsonc_sound.specs.Shape.{printed_text}
use Rattle.jsonc_sound.specs.Marks as trees
use Rattle.jsonc_sound.specs.SoundTrees.{SoundTree}

-- the marks of a tree, as those of a text
abbrev pub mark : trees.Mark → Mark
mark (trees.literal s) = Mark.literal s
mark (trees.comment s) = Mark.comment s

abbrev pub all_marks : List trees.Mark → List Mark
all_marks [] = []
all_marks (m ∷ ms) = mark m ∷ all_marks ms

-- the document of these options that the tree prints, with this value
abbrev pub document_of : Options → OrderedTree → Option Plain → Document
document_of o t w = record { options = o; text = printed_text t; value = w; marks = all_marks (trees.marks t) }

-- the tree is sound, and prints the document: its text, its value and its marks are the tree's
pub record Shows (d : Document) (t : OrderedTree) : Type 0 where
  pub sound : SoundTree d.options t
  pub value : DocumentValueOf d.options t d.value
  pub is : d ≡ document_of d.options t d.value

-- the tree shows a document of this text and these options
abbrev pub ShowsText : Options → List ℕ → OrderedTree → Type 0
ShowsText o text t = (d : Document) × (d.options ≡ o) × (d.text ≡ text) × Shows d t
