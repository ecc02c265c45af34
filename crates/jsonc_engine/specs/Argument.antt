-- The path, the JSON text, the pointer and the patch of a command: what they say, and what is wrong with them.
use Rattle.std.specs.Prelude.{◌≡◌, ◌≢◌, ℕ, List, [], ◌∷◌, Option, Some, None, chars, map}
use Rattle.jsonc_text.specs.Grammar.{IsDocument}
use Rattle.jsonc_text.specs.Options.{Options, all_on}
use Rattle.jsonc_text.specs.Plain.{Plain, Items, array, collapse, item, no_items, string}
use Rattle.jsonc_layout.specs.input.Views.{items_of}
use Rattle.jsonc_edit.specs.Writing.{IsWritable}
use Rattle.jsonc_parser.specs.patch.MergeTexts.{IsFaultOfMergePatch}
use Rattle.jsonc_parser.specs.patch.PatchFaults.{IsFaultOfPatch}
use Rattle.jsonc_parser.specs.patch.Pointer.{IsPointerFault}
use Rattle.jsonc_parser.specs.paths.Calls.{FitsAt}
use Rattle.jsonc_parser.specs.declared.patch.merge_text.MergePatchError.TheVariants as merge_patch
use Rattle.jsonc_parser.specs.declared.patch.operation.OperationFault.TheVariants as operation
use Rattle.jsonc_parser.specs.declared.patch.pointer.PointerError.TheVariants as pointer
use Rattle.jsonc_parser.specs.declared.patch.reading.PatchError.{PatchError}
use Rattle.jsonc_parser.specs.declared.patch.reading.PatchError.TheVariants as patch_error
use Rattle.jsonc_engine.specs.Command.{Request, append, find, json_of, merge, patch, path_of, put, set}
use Rattle.jsonc_engine.specs.Input.{IsRefusal, IsRefusalOf}
use Rattle.jsonc_engine.specs.Parser.{IsWithin, OutOfMemory}
use Rattle.jsonc_engine.specs.declared.fault.Fault.{Fault}
use Rattle.jsonc_engine.specs.declared.fault.Fault.TheVariants.{Argument, Edit, MergePatch, NoValue, NotNames, Patch, Path, Pointer}

-- the text of a value that is a string
abbrev pub text_in : Plain → Option (List ℕ)
text_in (string s) = Some s
text_in v = None

-- the elements of one that is an array
abbrev pub items_in : Plain → Option Items
items_in (array vs) = Some vs
items_in v = None

-- the array of these strings
abbrev pub strings : List (List ℕ) → Plain
strings names = array (items_of (map string names))

-- the text of these bytes is a document, and its value the array of these names
abbrev pub IsPath : List ℕ → List (List ℕ) → Type 0
IsPath bytes names = IsDocument all_on (chars bytes) (Some (strings names))

-- the text of these bytes is a document of the options, and v is its value, of equal names the last at the first place; documents of the options may hold v
pub record IsValueOf (o : Options) (json : List ℕ) (v : Plain) : Type 0 where
  pub value : Plain
  pub document : IsDocument o (chars json) (Some value)
  pub collapsed : v ≡ collapse value
  pub writable : IsWritable o v

-- the JSON text of a command may hold all that options allow
abbrev pub IsArgument : List ℕ → Plain → Type 0
IsArgument = IsValueOf all_on

-- as an element of the document's array v is nested no deeper than texts are parsed
abbrev pub FitsInArray : Plain → Type 0
FitsInArray v = IsWithin (Some (array (item v no_items)))

-- the value of the command's JSON text is nested deeper where it is put, in whatever document
abbrev pub IsTooDeep : Request → Type 0
IsTooDeep (set name json) = (v : Plain) × IsArgument json v × ¬ (FitsAt (chars name ∷ []) v)
IsTooDeep (append json) = (v : Plain) × IsArgument json v × ¬ (FitsInArray v)
IsTooDeep (put path json) = (names : List (List ℕ)) × (v : Plain) × IsPath path names × IsArgument json v × ¬ (FitsAt names v)
IsTooDeep request = ⊥

-- the command's path, if it has one, is a list of names
abbrev pub HasNames : Request → Type 0
HasNames request = (path : List ℕ) → path_of request ≡ Some path → (names : List (List ℕ)) × IsPath path names

-- its JSON text, if it has one, has a value
abbrev pub HasValue : Request → Type 0
HasValue request = (json : List ℕ) → json_of request ≡ Some json → (v : Plain) × IsArgument json v

-- the input may be read
abbrev pub IsReady : Request → Type 0
IsReady request = HasNames request × HasValue request

-- the value of a document, if it has one, is no array of strings
abbrev pub AreNoNames : Option Plain → Type 0
AreNoNames w = (names : List (List ℕ)) → w ≢ Some (strings names)

-- it is an array of strings
abbrev pub AreNames : Option Plain → Type 0
AreNames w = (names : List (List ℕ)) × (w ≡ Some (strings names))

-- reading this value as names can end with the fault; for allocation failure where it is one
abbrev pub IsFaultOfNames : {A : Type 0} → Option Plain → Fault A → Type 0
IsFaultOfNames w NotNames = AreNoNames w
IsFaultOfNames w (Edit OutOfMemory) = AreNames w
IsFaultOfNames w other = ⊥

-- the fault is true of the bytes of a path, and reading its names can end with it; for allocation failure, told by no parse, where it is a list of names
abbrev pub IsFaultOfPath : {A : Type 0} → List ℕ → Fault A → Type 0
IsFaultOfPath path (Path error) = IsRefusal path error
IsFaultOfPath path NotNames = (w : Option Plain) × IsDocument all_on (chars path) w × AreNoNames w
IsFaultOfPath path (Edit OutOfMemory) = (names : List (List ℕ)) × IsPath path names
IsFaultOfPath path other = ⊥

-- the fault is true of the bytes of a JSON text under the options, and reading its value can end with it
abbrev pub IsFaultOfJson : {A : Type 0} → Options → List ℕ → Fault A → Type 0
IsFaultOfJson o json (Argument error) = IsRefusalOf o json error
IsFaultOfJson o json NoValue = IsDocument o (chars json) None
IsFaultOfJson o json other = ⊥

-- it is not for memory that the text of a patch was not read
abbrev pub IsOfText : {A : Type 0} → PatchError A → Type 0
IsOfText e = (i : ℕ) → e ≢ patch_error.Operation i operation.OutOfMemory

-- the fault is true of the bytes of the command's pointer, or of its patch under the options, and reading it can end with it
abbrev pub IsFaultOfText : {A : Type 0} → Options → Request → Fault A → Type 0
IsFaultOfText o (find text) (Pointer e) = IsPointerFault (chars text) e × (e ≢ pointer.OutOfMemory)
IsFaultOfText o (find text) (Edit OutOfMemory) = IsPointerFault (chars text) pointer.OutOfMemory
IsFaultOfText o (patch text most) (Patch e) = IsFaultOfPatch o text e × IsOfText e
IsFaultOfText {A} o (patch text most) (Edit OutOfMemory) = (i : ℕ) × IsFaultOfPatch {A = A} o text (patch_error.Operation i operation.OutOfMemory)
IsFaultOfText o (merge text) (MergePatch e) = IsFaultOfMergePatch o text e × (e ≢ merge_patch.OutOfMemory)
IsFaultOfText {A} o (merge text) (Edit OutOfMemory) = IsFaultOfMergePatch {A = A} o text merge_patch.OutOfMemory
IsFaultOfText o request other = ⊥

-- the fault is true of the path that the command has; or of its JSON text, which is not read before the path is known to be a list of names; or of its pointer or patch
pub data IsFaultOfArgument {A : Type 0} (o : Options) (request : Request) (fault : Fault A) : Type 0 where
  of_path : (path : List ℕ) → path_of request ≡ Some path → IsFaultOfPath path fault → IsFaultOfArgument o request fault
  of_json : (json : List ℕ) → HasNames request → json_of request ≡ Some json → IsFaultOfJson all_on json fault → IsFaultOfArgument o request fault
  of_text : IsFaultOfText o request fault → IsFaultOfArgument o request fault
