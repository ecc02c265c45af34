-- From a text, through a list of edits, to the text after them.
use Rattle.std.specs.Prelude.{◌≡◌, ◌⊎◌, ◌<◌, ℕ, true, List, chars, length, take}
use Rattle.std.specs.List.{All}
use Rattle.jsonc_text.specs.Documents.{Document, IsOne}
use Rattle.jsonc_text.specs.Faults.{IsFault}
use Rattle.jsonc_text.specs.Options.{Options}
use Rattle.jsonc_walk.specs.Refusals.{RefusesText, IsWithin}
use Rattle.jsonc_walk.specs.Faults.{ParseFault}
use Rattle.jsonc_text.specs.declared.edit.EditError.{EditError}
use Rattle.jsonc_text.specs.declared.edit.EditError.TheVariants.{OutOfMemory}
use Rattle.jsonc_run.specs.declared.edit.Edit.{Edit}
use Rattle.jsonc_run.specs.Edits.{Fits}
use Rattle.jsonc_run.specs.promise.Asked.{EditsTo, IsStopped}
use Rattle.jsonc_parser.specs.declared.cst.texts.EditTextError.{EditTextError}
use Rattle.jsonc_parser.specs.declared.cst.texts.EditTextError.TheVariants as error

-- The first text is a document of these options. If they allow what the edits write, the edits lead from it to one of the second text, which can be parsed: no value
-- in it has more than 512 containers and properties around it.
abbrev pub IsEditedText : {A : Type 0} → Options → List ℕ → List (Edit A) → List ℕ → Type 0
IsEditedText o text edits edited = (d : Document) × (d.options ≡ o) × (d.text ≡ text) × IsOne d
    × (All (Fits o) edits → (e : Document) × (e.text ≡ edited) × EditsTo d edits e × IsWithin e.value)

-- The text is a document, and after k edits the next was refused; or all were made, and there was no memory for the text after them.
abbrev pub StopsText : {A : Type 0} → Options → List ℕ → List (Edit A) → ℕ → EditError → Type 0
StopsText o text edits k why = (d : Document) × (d.options ≡ o) × (d.text ≡ text) × IsOne d
    × (((k ≡ length edits) × (why ≡ OutOfMemory)) ⊎ ((k < length edits) × (All (Fits o) (take k edits) → (e : Document) × IsStopped d edits k why e)))

-- Why a text was not edited: what parsing says of it, or where its edits stop.
abbrev pub IsNotEdited : {A : Type 0} → Options → List ℕ → List (Edit A) → EditTextError → Type 0
IsNotEdited o bytes edits (error.Parse fault) = RefusesText o bytes fault × IsFault bytes fault × ParseFault o bytes true fault
IsNotEdited o bytes edits (error.Edit k why) = StopsText o (chars bytes) edits k why
