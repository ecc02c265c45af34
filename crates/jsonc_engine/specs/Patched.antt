-- What a patch makes of the input, and why it is not made (RFC 6902 and RFC 7396).
use Rattle.std.specs.Prelude.{◌≡◌, ◌≢◌, ◌≤◌, ℕ, List, [], Option, IsUtf8, chars, length, map}
use Rattle.std.specs.List.{All}
use Rattle.jsonc_cst.specs.declared.cst.CstRootNode.{CstRootNode}
use Rattle.jsonc_cst.specs.Document.{tree_of}
use Rattle.jsonc_edit.specs.Writing.{IsOfNumbers}
use Rattle.jsonc_sound.specs.Documents.{Shows}
use Rattle.jsonc_text.specs.Documents.{Document}
use Rattle.jsonc_text.specs.Grammar.{IsDocument}
use Rattle.jsonc_text.specs.Options.{Options}
use Rattle.jsonc_text.specs.Plain.{Plain}
use Rattle.jsonc_text.specs.declared.edit.EditError.{EditError}
use Rattle.jsonc_text.specs.declared.edit.EditError.TheVariants.{NestingDepthExceeded, OutOfMemory}
use Rattle.jsonc_engine.specs.Input.{IsInputOf}
use Rattle.jsonc_parser.specs.patch.Applied.{IsPatched, IsStopped}
use Rattle.jsonc_parser.specs.patch.Asked.{asked, FitsIn}
use Rattle.jsonc_parser.specs.patch.Merged.{IsMerged}
use Rattle.jsonc_parser.specs.patch.MergeTexts.{IsMergePatch}
use Rattle.jsonc_parser.specs.patch.Merging.{Stops}
use Rattle.jsonc_parser.specs.patch.PatchTexts.{IsPatch}
use Rattle.jsonc_parser.specs.patch.Within.{StopsWithin}
use Rattle.jsonc_parser.specs.declared.patch.apply.PatchFault.{PatchFault}
use Rattle.jsonc_parser.specs.declared.patch.making.PatchCause.TheVariants as cause
use Rattle.jsonc_parser.specs.declared.patch.operation.Operation.{Operation}
use Rattle.jsonc_engine.specs.declared.fault.Fault.{Fault}
use Rattle.jsonc_engine.specs.declared.fault.Fault.TheVariants as told

-- under the options the text of these bytes is the patch of these operations, and they write numbers of the options
abbrev pub IsPatchOf : {A : Type 0} → Options → List ℕ → List (Operation A) → Type 0
IsPatchOf o text operations = IsPatch o (chars text) (map asked operations) × All (FitsIn o) operations

-- it is the merge patch of this value, with such numbers
abbrev pub IsMergePatchOf : Options → List ℕ → Plain → Type 0
IsMergePatchOf o text p = IsMergePatch o (chars text) p × IsOfNumbers o p

-- the input is the text of a document of the options, of which this is so
pub record OfDocument (o : Options) (input : List ℕ) (is_so : Document → Type 0) : Type 0 where
  pub document : Document
  pub options : document.options ≡ o
  pub text : document.text ≡ chars input
  pub so : is_so document

-- the output is the text of a document, of which this is so, and which `check` accepts under the options
pub record IsTextOf (o : Options) (output : List ℕ) (is_so : Document → Type 0) : Type 0 where
  pub document : Document
  pub bytes : IsUtf8 output
  pub text : document.text ≡ chars output
  pub so : is_so document
  pub accepted : IsInputOf o output

-- the operations of the patch lead from the document of the input to that of the output, which has at most so many bytes if there is an operation
pub record IsApplied (A : Type 0) (o : Options) (text : List ℕ) (most : ℕ) (input output : List ℕ) : Type 0 where
  pub operations : List (Operation A)
  pub patch : IsPatch o (chars text) (map asked operations)
  pub made : OfDocument o input (λ d. IsTextOf o output (λ e. IsPatched d operations e))
  pub within : operations ≢ [] → length output ≤ most

-- merging the patch leads from the document of the input to that of the output
pub record IsMergedInto (o : Options) (text input output : List ℕ) : Type 0 where
  pub value : Plain
  pub patch : IsMergePatch o (chars text) value
  pub made : OfDocument o input (λ d. IsTextOf o output (λ e. IsMerged d value e))

-- if an edit was refused, a value would be nested too deep
abbrev pub IsNotForMemory : {A : Type 0} → PatchFault A → Type 0
IsNotForMemory fault = (why : EditError) → fault.cause ≡ cause.Edit why → why ≡ NestingDepthExceeded

-- in the document of the input the operations of the patch stop with this fault, and not for memory
pub record StopsOn {A : Type 0} (o : Options) (text input : List ℕ) (fault : PatchFault A) : Type 0 where
  pub operations : List (Operation A)
  pub patch : IsPatch o (chars text) (map asked operations)
  pub stopped : OfDocument o input (λ d. IsStopped d operations fault)
  pub cause : IsNotForMemory fault

-- in the document of the input the operations of the patch lead to texts of at most so many bytes each, up to the one of this number, which leads to one of more
pub record GrowsBeyond (A : Type 0) (o : Options) (text : List ℕ) (most : ℕ) (input : List ℕ) (operation : ℕ) : Type 0 where
  pub operations : List (Operation A)
  pub patch : IsPatch o (chars text) (map asked operations)
  pub grown : OfDocument o input (λ d. (old : CstRootNode A) × Shows d (tree_of old) × StopsWithin most old operations (record { operation = operation; cause = cause.TooLarge }))

-- in the document of the input more than one property of an object has this name, which the merge patch names there
pub record MeetsTwice (o : Options) (text input name : List ℕ) : Type 0 where
  pub value : Plain
  pub patch : IsMergePatch o (chars text) value
  pub stops : OfDocument o input (λ d. Stops name [] value d.value)

-- the input is a document of the options
abbrev pub IsOne : Options → List ℕ → Type 0
IsOne o input = (w : Option Plain) × IsDocument o (chars input) w

-- what is reported of an operation that was not made under a bound: itself, that the document would be larger, or that there was no memory
abbrev pub IsToldFor : {A : Type 0} → ℕ → PatchFault A → Fault A → Type 0
IsToldFor most fault (told.Operation f) = (f ≡ fault) × IsNotForMemory fault × (fault.cause ≢ cause.TooLarge)
IsToldFor most fault (told.TooLarge operation bytes) = (bytes ≡ most) × (fault ≡ record { operation = operation; cause = cause.TooLarge })
IsToldFor most fault (told.Edit OutOfMemory) = (why : EditError) × (fault.cause ≡ cause.Edit why)
IsToldFor most fault other = ⊥
