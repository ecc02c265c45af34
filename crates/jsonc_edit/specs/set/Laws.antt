-- Laws of a root that is given its first value, or cleared.
use Rattle.std.specs.Prelude.{◌≡◌, ℕ, List, [], Option, Some, None}
use Rattle.jsonc_text.specs.Options.{Options}
use Rattle.jsonc_text.specs.Plain.{Plain}
use Rattle.jsonc_text.specs.Grammar.{IsDocument}
use Rattle.jsonc_tree.specs.OrderedTree.{OrderedTree, ordered_tree}
use Rattle.jsonc_tree.specs.Tree.{Node, children_at, IsTree}
use Rattle.jsonc_tree.specs.Values.{DocumentValueOf}
use Rattle.jsonc_sound.specs.Shape.{printed_text}
use Rattle.jsonc_layout.specs.nodes.Properties.{value_at}
use Rattle.jsonc_tree.specs.OrderedTree.{Top}
use Rattle.jsonc_sound.specs.SoundTrees.{SoundTree}
use Rattle.jsonc_sound.specs.Marks.{marks}
use Rattle.jsonc_sound.specs.MarkChanges.{MarksDifferIn, marks_under}
use Rattle.jsonc_sound.specs.Coming.{ValueInserted}
use Rattle.jsonc_edit.specs.Changes.{row_below}
use Rattle.jsonc_edit.specs.Reading.{layout_for}
use Rattle.jsonc_layout.specs.from_input.Laid.{laid}
use Rattle.jsonc_edit.specs.Writing.{IsWritable}
use Rattle.jsonc_edit.specs.set.RootSet.{FirstValue}

-- where a first value has come into a sound document that had none, it has come so among the rows below the root
abbrev pub ComesAmongRows : Options → List Node → List Node → Plain → ℕ → Type 0
ComesAmongRows o old new v m =
    IsTree old → SoundTree o (ordered_tree old 0) → value_at old 0 ≡ None → FirstValue old new v m
    → ValueInserted (laid (layout_for old 0 0) v) (row_below old 0) (row_below new 0)

-- a document has this value now, or none; its text is one of the grammar, and it is sound
pub record Means (o : Options) (t : OrderedTree) (w : Option Plain) : Type 0 where
  pub text : IsDocument o (printed_text t) w
  pub value : DocumentValueOf o t w
  pub sound : SoundTree o t

-- the document had no value and has this one; of its marks those of the value's node have come
pub record InsertsValue (o : Options) (v : Plain) (top : Top) (old new : OrderedTree) : Type 0 where
  pub before : Means o old None
  pub after : Means o new (Some v)
  pub marked : MarksDifferIn [] (marks_under top) (marks old) (marks new)

-- so it is where a first value that may be written has come
abbrev pub GivesFirstValue : Options → List Node → List Node → Plain → ℕ → Type 0
GivesFirstValue o old new v m =
    IsTree old → SoundTree o (ordered_tree old 0) → value_at old 0 ≡ None → IsWritable o v → FirstValue old new v m
    → InsertsValue o v (laid (layout_for old 0 0) v) (ordered_tree old 0) (ordered_tree new 0)

-- a root without children is a sound document, without a value and without marks
pub record IsBareDocument (o : Options) (t : OrderedTree) : Type 0 where
  pub means : Means o t None
  pub unmarked : marks t ≡ []

abbrev pub LeavesBareDocument : Options → List Node → Type 0
LeavesBareDocument o new = IsTree new → children_at new 0 ≡ [] → IsBareDocument o (ordered_tree new 0)
