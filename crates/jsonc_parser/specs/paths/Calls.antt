-- What is put at names in a document, and what is dropped from it, by one edit.
use Rattle.std.specs.Prelude.{◌≡◌, ◌∷◌, [], ℕ, Bool, true, false, List, Option, Some, option_map}
use Rattle.jsonc_text.specs.Documents.{Document}
use Rattle.jsonc_run.specs.texts.Edits.{Operation, Run}
use Rattle.jsonc_text.specs.Grammar.{IsDocument}
use Rattle.jsonc_text.specs.Plain.{Plain, collapse}
use Rattle.jsonc_tree.specs.OrderedTree.{ordered_tree}
use Rattle.jsonc_tree.specs.Tree.{Node, IsTree}
use Rattle.jsonc_walk.specs.Refusals.{IsWithin}
use Rattle.jsonc_sound.specs.Documents.{Shows}
use Rattle.jsonc_sound.specs.Shape.{printed_text}
use Rattle.jsonc_edit.specs.Writing.{IsOfNumbers}
use Rattle.jsonc_text.specs.declared.edit.EditError.{EditError}
use Rattle.jsonc_text.specs.declared.edit.EditError.TheVariants.{NestingDepthExceeded, OutOfMemory}
use Rattle.jsonc_text.specs.declared.edit.Over.{Over}
use Rattle.jsonc_run.specs.Edits.{EditStep, PlainEdit, IsOfCharacters}
use Rattle.jsonc_run.specs.Refusals.{FailsWith}
use Rattle.jsonc_run.specs.Named.{Asks}
use Rattle.jsonc_parser.specs.paths.Laws.{IsSameElsewhere, MustStay}
use Rattle.jsonc_parser.specs.paths.Positions.{IsDroppedBy, IsPutBy}
use Rattle.jsonc_parser.specs.paths.Settings.{At, Dropped, Put, nest}
use Rattle.jsonc_parser.specs.paths.NamedNodes.{NamesNothing}
use Rattle.jsonc_parser.specs.paths.Which.{seen, seen_if}
use Rattle.jsonc_parser.specs.declared.paths.which.Which.{Which}
use Rattle.jsonc_parser.specs.declared.paths.which.Which.TheVariants.{First}

-- v fits at the names: at most 512 containers and properties are around each value in it, the objects and properties that the names lead through among them
abbrev pub FitsAt : List (List ℕ) → Plain → Type 0
FitsAt names v = IsWithin (Some (nest names v))

-- One edit leads from d to e, and in the value of e, as it is seen, v is put at the names: there v is, and at any path that differs what was there before. If v fits
-- there, a value that is within the depth stays so.
pub record IsPutIn (which : Which) (d : Document) (v : Plain) (over : Over) (names : List (List ℕ)) (edit : PlainEdit) (e : Document) : Type 0 where
  pub op : Operation
  pub asked : Asks d.value edit op
  pub edited : Run d (op ∷ []) e
  pub put : Put (seen which v) over (seen_if which d.value) names (seen_if which e.value)
  pub there : At (seen_if which e.value) names (seen which v)
  pub elsewhere : IsSameElsewhere names (seen_if which d.value) (seen_if which e.value)
  pub within : FitsAt names v → IsWithin d.value → IsWithin e.value

-- One edit leads from d to e, and of the value of e what was at the names is dropped; at any path that differs is what was there before. A value that is within the
-- depth stays so.
pub record IsDroppedIn (d : Document) (names : List (List ℕ)) (edit : PlainEdit) (e : Document) : Type 0 where
  pub op : Operation
  pub asked : Asks d.value edit op
  pub edited : Run d (op ∷ []) e
  pub dropped : Dropped d.value names e.value
  pub elsewhere : IsSameElsewhere names d.value e.value
  pub within : IsWithin d.value → IsWithin e.value

-- Of a document that the old nodes show: the one edit was made that puts v at the names, and nothing had to stay; if the numbers of v are numbers of the options, it is
-- put so in a document that the new nodes show. Or nothing was made, since a value of another kind is in the way, and is to stay.
abbrev pub PutsAt : Which → Document → Plain → Over → List (List ℕ) → List Node → List Node → Bool → Type 0
PutsAt which d v over names old new true =
    ¬ (MustStay over (seen_if which d.value) names) × (edit : PlainEdit) × IsPutBy which v over d.value names edit × EditStep old edit new
    × (IsOfNumbers d.options v → (e : Document) × Shows e (ordered_tree new 0) × IsPutIn which d v over names edit e)
PutsAt which d v over names old new false = (new ≡ old) × MustStay over (seen_if which d.value) names

-- Of a document that the old nodes show: the one edit was made that drops what is at the names, and it is dropped so from a document that the new nodes show; or
-- nothing was made, since nothing is there.
abbrev pub DropsAt : Document → List (List ℕ) → List Node → List Node → Bool → Type 0
DropsAt d names old new true = (edit : PlainEdit) × IsDroppedBy d.value names edit × EditStep old edit new × (e : Document) × Shows e (ordered_tree new 0) × IsDroppedIn d names edit e
DropsAt d names old new false = (new ≡ old) × NamesNothing First d names

-- Whatever the nodes show, and where they show nothing: one edit was made, or none where the answer is false.
abbrev pub MakesOneEdit : List Node → List Node → Bool → Type 0
MakesOneEdit old new true = (edit : PlainEdit) × EditStep old edit new
MakesOneEdit old new false = new ≡ old

-- so it is of whatever document the old nodes show
abbrev pub PutsWhatShown : Which → Plain → Over → List (List ℕ) → List Node → List Node → Bool → Type 0
PutsWhatShown which v over names old new done = (d : Document) → Shows d (ordered_tree old 0) → PutsAt which d v over names old new done

abbrev pub DropsWhatShown : List (List ℕ) → List Node → List Node → Bool → Type 0
DropsWhatShown names old new done = (d : Document) → Shows d (ordered_tree old 0) → DropsAt d names old new done

-- A value was put: what the text that was made is read as, with equal names collapsed, has it at the names, in which alone there is one of each.
abbrev pub IsReadThere : Plain → List (List ℕ) → List Node → List Node → Bool → Type 0
IsReadThere v names old new true = (d : Document) → Shows d (ordered_tree old 0) → IsOfNumbers d.options v
    → (w : Option Plain) → IsDocument d.options (printed_text (ordered_tree new 0)) w → At (option_map collapse w) names (collapse v)
IsReadThere v names old new false = Unit {0}

-- of a document that the nodes show memory alone is lacking
abbrev pub WantsMemory : List Node → EditError → Type 0
WantsMemory old why = (d : Document) → Shows d (ordered_tree old 0) → why ≡ OutOfMemory

-- why v was not put at the names: it does not fit there, and else memory alone is lacking
abbrev pub IsRefusalToPut : List (List ℕ) → Plain → EditError → Type 0
IsRefusalToPut names v NestingDepthExceeded = ¬ (FitsAt names v)
IsRefusalToPut names v OutOfMemory = FitsAt names v
IsRefusalToPut names v why = ⊥

-- so it is of a document that the nodes show
abbrev pub FailsToPut : List Node → List (List ℕ) → Plain → EditError → Type 0
FailsToPut old names v why = (d : Document) → Shows d (ordered_tree old 0) → IsRefusalToPut names v why

-- where the one edit that puts the value was made, or that drops what is there
abbrev pub PutsByOneEdit : Which → Document → Plain → Over → List (List ℕ) → PlainEdit → List Node → List Node → Type 0
PutsByOneEdit which d v over names edit old new =
    IsTree old → IsTree new → Shows d (ordered_tree old 0) → IsPutBy which v over d.value names edit → IsOfCharacters edit → EditStep old edit new
    → PutsAt which d v over names old new true

abbrev pub DropsByOneEdit : Document → List (List ℕ) → PlainEdit → List Node → List Node → Type 0
DropsByOneEdit d names edit old new =
    IsTree old → IsTree new → Shows d (ordered_tree old 0) → IsDroppedBy d.value names edit → EditStep old edit new → DropsAt d names old new true

-- where it was refused, and the value fits, allocation failed
abbrev pub PutsUnlessOutOfMemory : Which → Document → Plain → Over → List (List ℕ) → PlainEdit → List Node → EditError → Type 0
PutsUnlessOutOfMemory which d v over names edit old why =
    IsTree old → Shows d (ordered_tree old 0) → FitsAt names v → IsPutBy which v over d.value names edit → FailsWith old edit why → why ≡ OutOfMemory

abbrev pub DropsButForMemory : Document → List (List ℕ) → PlainEdit → List Node → EditError → Type 0
DropsButForMemory d names edit old why =
    IsTree old → Shows d (ordered_tree old 0) → IsDroppedBy d.value names edit → FailsWith old edit why → why ≡ OutOfMemory
