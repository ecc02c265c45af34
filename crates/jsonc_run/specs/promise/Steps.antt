-- One edit of a node, as a step of the chain: from each document that the nodes showed it leads to one that they show.
use Rattle.std.specs.Prelude.{◌≡◌, ◌≢◌, ℕ, List, [], ◌∷◌, Some}
use Rattle.jsonc_text.specs.Documents.{Document}
use Rattle.jsonc_run.specs.texts.Edits.{Operation, Run}
use Rattle.jsonc_tree.specs.Content.{property}
use Rattle.jsonc_tree.specs.OrderedTree.{ordered_tree}
use Rattle.jsonc_tree.specs.Tree.{Node, content_at, parent_at, IsOver}
use Rattle.jsonc_sound.specs.Documents.{Shows}
use Rattle.jsonc_edit.specs.Comments.{comment_at}
use Rattle.jsonc_run.specs.Edits.{PlainEdit, Allows}
use Rattle.jsonc_run.specs.Named.{Asks}

-- if the options of d allow what it writes, the edit leads from d, by the operation that it asks for there, to a document that the nodes show
abbrev pub LeadsTo : Document → PlainEdit → List Node → Type 0
LeadsTo d asked new = Allows d.options asked → (e : Document) × Shows e (ordered_tree new 0) × (op : Operation) × Asks d.value asked op × Run d (op ∷ []) e

-- whatever document the old nodes show, the edit leads from it to one that the new nodes show
abbrev pub IsStepOf : PlainEdit → List Node → List Node → Type 0
IsStepOf op old new = (d : Document) → Shows d (ordered_tree old 0) → LeadsTo d op new

-- If n stands in the document: whatever document the old nodes show, n stands at a place of it, and the edit of that place leads from it to one that the new
-- nodes show.
abbrev pub IsStep : {P : Type 0} → (List Node → P → ℕ → Type 0) → (P → PlainEdit) → List Node → List Node → ℕ → Type 0
IsStep {P} At op old new n = IsOver old 0 n → (d : Document) → Shows d (ordered_tree old 0) → (place : P) × At old place n × LeadsTo d (op place) new

-- n is the comment of this number
abbrev pub IsCommentAt : List Node → ℕ → ℕ → Type 0
IsCommentAt ns number n = comment_at ns number ≡ Some n

-- n is neither the name nor the value of a property
abbrev pub IsNoPart : List Node → ℕ → Type 0
IsNoPart ns n = (c : ℕ) → parent_at ns n ≡ Some c → content_at ns c ≢ property
