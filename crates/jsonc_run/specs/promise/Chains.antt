-- From edits that were made in nodes to one chain of texts.
use Rattle.std.specs.Prelude.{List, [], ◌∷◌, ◌++◌, length, Option}
use Rattle.std.specs.List.{All}
use Rattle.jsonc_text.specs.Documents.{Document, IsOne}
use Rattle.jsonc_run.specs.texts.Edits.{Operation, Run}
use Rattle.jsonc_text.specs.Options.{Options}
use Rattle.jsonc_text.specs.Plain.{Plain}
use Rattle.jsonc_tree.specs.OrderedTree.{OrderedTree, ordered_tree}
use Rattle.jsonc_tree.specs.Tree.{Node, IsTree}
use Rattle.jsonc_sound.specs.Documents.{document_of, Shows}
use Rattle.jsonc_run.specs.Edits.{PlainEdit, EditSteps, IsOfCharacters, Allows}
use Rattle.jsonc_run.specs.Steps.{Steps}
use Rattle.jsonc_run.specs.Written.{options_after}
use Rattle.jsonc_run.specs.Named.{Asks, IsNamed}
use Rattle.jsonc_text.specs.Marks.{comments_of}

-- a chain of documents, in which each edit has its place, and leads to the next by the operation that it asks for
pub data NamedRun : Document → List PlainEdit → List Operation → Document → Type 0 where
  none_named : {d : Document} → IsOne d → NamedRun d [] [] d
  one_named : {d m f : Document} {e : PlainEdit} {es : List PlainEdit} {op : Operation} {ops : List Operation} → IsNamed d.value (length (comments_of d.marks)) e → Asks d.value e op → Run d (op ∷ []) m
      → NamedRun m es ops f → NamedRun d (e ∷ es) (op ∷ ops) f

-- one chain of sound trees is one chain of the documents that they print
abbrev pub StepsAreRun : Options → OrderedTree → OrderedTree → Type 0
StepsAreRun o t u = (w x : Option Plain) (es : List PlainEdit) (ops : List Operation) → Steps o t w es ops u x → All IsOfCharacters es
    → Run (document_of o t w) ops (document_of (options_after o ops) u x) × NamedRun (document_of o t w) es ops (document_of (options_after o ops) u x)

-- Whatever document the old nodes show: if its options allow what the edits write, then the new nodes show one to which the edits lead.
abbrev pub Leads : List Node → List PlainEdit → List Node → Type 0
Leads old es new = (d : Document) → Shows d (ordered_tree old 0) → All (Allows d.options) es
    → (e : Document) × Shows e (ordered_tree new 0) × (ops : List Operation) × Run d ops e × NamedRun d es ops e

-- edits that were made in order lead from each document to the next
abbrev pub EditsLead : List Node → List Node → Type 0
EditsLead old new = (es : List PlainEdit) → IsTree old → EditSteps old es new → All IsOfCharacters es → Leads old es new

-- what a tree shows is a document of the grammar, with its value and its marks
abbrev pub ShownAreDocuments : OrderedTree → Type 0
ShownAreDocuments t = (d : Document) → Shows d t → IsOne d

-- where one list of operations leads to a document and another from there, both together lead all the way
abbrev pub RunsJoin : Document → Document → Document → Type 0
RunsJoin d e f = (first second : List Operation) → Run d first e → Run e second f → Run d (first ++ second) f
