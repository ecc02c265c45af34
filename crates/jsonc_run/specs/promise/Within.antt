-- Edits that keep documents within the depth that texts are parsed to.
use Rattle.std.specs.Prelude.{List}
use Rattle.jsonc_text.specs.Documents.{Document}
use Rattle.jsonc_tree.specs.OrderedTree.{ordered_tree}
use Rattle.jsonc_tree.specs.Tree.{Node}
use Rattle.jsonc_walk.specs.Refusals.{IsWithin}
use Rattle.jsonc_sound.specs.Documents.{Shows}
use Rattle.jsonc_run.specs.Edits.{PlainEdit, Allows}

-- if each value of the one document has no more than 512 containers and properties around it, so has each of the other
abbrev pub StaysWithin : Document → Document → Type 0
StaysWithin d e = IsWithin d.value → IsWithin e.value

-- so it is of the documents that the nodes showed and show, where the options allow what the edit writes
abbrev pub KeepsWithin : List Node → PlainEdit → List Node → Type 0
KeepsWithin old asked new = (d e : Document) → Shows d (ordered_tree old 0) → Allows d.options asked → Shows e (ordered_tree new 0) → StaysWithin d e
