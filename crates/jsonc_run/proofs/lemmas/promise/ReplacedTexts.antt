-- Where a value is replaced by another in a sound tree, it is replaced in the text.
use Rattle.std.proofs.Common.{Option}
use Rattle.jsonc_text.specs.Options.{Options}
use Rattle.jsonc_text.specs.Plain.{Plain}
use Rattle.jsonc_text.specs.Grammar.{IsDocument}
use Rattle.jsonc_tree.specs.OrderedTree.{OrderedTree}
use Rattle.jsonc_sound.specs.Shape.{printed_text}
use Rattle.jsonc_sound.specs.SoundTrees.{SoundTree}
use Rattle.jsonc_sound.proofs.Printed.{prints_its_marks}
use Rattle.jsonc_text.specs.Documents.{IsOne}
use Rattle.jsonc_sound.specs.Documents.{document_of}
use Rattle.jsonc_run.proofs.lemmas.promise.MarkLists.{marks_to}

-- what a sound tree prints, and what that says
pub is_one : (o : Options) (t : OrderedTree) (w : Option Plain) → SoundTree o t → IsDocument o (printed_text t) w → IsOne (document_of o t w)
is_one o t w s says = record { says = says; marked = marks_to (prints_its_marks o t s) }
