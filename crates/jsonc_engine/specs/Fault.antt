-- What a fault says of the command's words and of the input.
use Rattle.std.specs.Prelude.{◌≡◌, ◌≢◌, ℕ, List, [], ◌∷◌, None, Option, IfSome, ◌⊎◌, chars, IsUtf8}
use Rattle.jsonc_edit.specs.set.Shapes.{is_array, is_object}
use Rattle.jsonc_layout.specs.input.Views.{chars_of}
use Rattle.jsonc_text.specs.Faults.{kind_of}
use Rattle.jsonc_text.specs.Plain.{Plain}
use Rattle.jsonc_text.specs.declared.errors.ParseErrorKind.TheVariants as ErrorKind
use Rattle.jsonc_parser.specs.paths.Calls.{FitsAt}
use Rattle.jsonc_parser.specs.declared.patch.apply.PatchFault.{PatchFault}
use Rattle.jsonc_engine.specs.Argument.{FitsInArray, IsFaultOfArgument, IsPath, IsReady, IsTooDeep}
use Rattle.jsonc_engine.specs.Calls.{one_more}
use Rattle.jsonc_engine.specs.Causes.{HasValue, IsNonFiniteAt}
use Rattle.jsonc_engine.specs.Command.{Request, set, append, remove, sort, get, find, put, drop, patch, merge, as_json}
use Rattle.jsonc_engine.specs.Finding.{HasNothingFor, HasTwiceFor, WantsFor}
use Rattle.jsonc_engine.specs.Input.{HasAnother, HasKind, IsRefusalOf, MayHave}
use Rattle.jsonc_engine.specs.Output.{IsLeft}
use Rattle.jsonc_engine.specs.Patched.{GrowsBeyond, IsOne, MeetsTwice, StopsOn}
use Rattle.jsonc_engine.specs.Removal.{IsNoObject}
use Rattle.jsonc_engine.specs.Settings.{HasInTheWay, HasNothingAt, IsForPutting, IsForSomething}
use Rattle.jsonc_engine.specs.Parser.{IsDocument, NestingDepthExceeded, Options, OutOfMemory, ParseError, all_on}
use Rattle.jsonc_engine.specs.declared.fault.Fault.{Fault}
use Rattle.jsonc_engine.specs.declared.fault.Fault.TheVariants.{Argument, Edit, Input, MergePatch, NoRoot, NoSetting, NoSuchValue, NoValue, NonFinite, NotArray, NotNames, NotObject, NotUtf8, OnTheWay, Operation, Patch, Path, Pointer, Read, RepeatedName, TooLarge, Usage, Write}

-- the command finds no object in the document: `set` makes one where the document has no value, and `remove` and `sort` do not
abbrev pub FindsNoObject : Options → Request → List ℕ → Type 0
FindsNoObject o (set name json) input = HasAnother is_object o input
FindsNoObject o (remove name) input = IsNoObject o input
FindsNoObject o sort input = IsNoObject o input
FindsNoObject o request input = ⊥

-- it finds no array, and makes one where the document has no value
abbrev pub FindsNoArray : Options → Request → List ℕ → Type 0
FindsNoArray o (append json) input = HasAnother is_array o input
FindsNoArray o request input = ⊥

-- nothing stands at the names in the value of the input
abbrev pub FindsNothing : Options → Request → List ℕ → Type 0
FindsNothing o (get path) input = (names : List (List ℕ)) × IsPath path names × HasNothingAt o input names
FindsNothing o request input = ⊥

-- a value of another kind than an object stands in their way
abbrev pub FindsInTheWay : Options → Request → List ℕ → Type 0
FindsInTheWay o (put path json) input = (names : List (List ℕ)) × IsPath path names × HasInTheWay o input names
FindsInTheWay o request input = ⊥

-- the pointer refers to nothing in the document of the input
abbrev pub RefersToNone : Options → Request → List ℕ → Type 0
RefersToNone o (find text) input = HasNothingFor o text input
RefersToNone o request input = ⊥

-- more than one property of an object has this name, where the pointer or the merge patch names it
abbrev pub NamesTwice : Options → Request → List ℕ → List ℕ → Type 0
NamesTwice o (find text) input name = HasTwiceFor o text input name
NamesTwice o (merge text) input name = MeetsTwice o text input name
NamesTwice o request input name = ⊥

-- an operation of the patch is not made
abbrev pub StopsAt : {A : Type 0} → Options → Request → List ℕ → PatchFault A → Type 0
StopsAt o (patch text most) input fault = StopsOn o text input fault
StopsAt o request input fault = ⊥

-- after the operation of this number the document would have more than so many bytes
abbrev pub GrowsTooLarge : Type 0 → Options → Request → List ℕ → ℕ → ℕ → Type 0
GrowsTooLarge A o (patch text most) input operation bytes = (bytes ≡ most) × GrowsBeyond A o text most input operation
GrowsTooLarge A o request input operation bytes = ⊥

-- the document has no value to write as JSON
abbrev pub LacksRoot : Request → List ℕ → Type 0
LacksRoot as_json input = IsDocument all_on (chars input) None
LacksRoot request input = ⊥

-- a number there has no form in JSON
abbrev pub HasNoJsonAt : Request → List ℕ → ℕ → ℕ → Type 0
HasNoJsonAt as_json input line column = IsNonFiniteAt input line column
HasNoJsonAt request input line column = ⊥

-- the value that the command writes is nested too deep, in whatever document, or, of a merge patch, in this one
abbrev pub NestsTooDeep : Options → Request → List ℕ → Type 0
NestsTooDeep o (merge text) input = IsOne o input
NestsTooDeep o request input = IsTooDeep request

-- where the text is only read, no memory is wanted for that
abbrev pub IsToldFreely : Request → ParseError → Type 0
IsToldFreely as_json error = kind_of error ≢ ErrorKind.OutOfMemory
IsToldFreely request error = Unit {0}

-- No other fault is told of the input that is seen without memory: its text is a document, and its value, as far as that is seen so, what the command wants. `check` and
-- `print` want none.
abbrev pub IsForMemory : Options → Request → List ℕ → Type 0
IsForMemory o (set name json) input = MayHave is_object o input
IsForMemory o (append json) input = MayHave is_array o input
IsForMemory o (remove name) input = HasKind is_object o input
IsForMemory o sort input = HasKind is_object o input
IsForMemory o (get path) input = (names : List (List ℕ)) × IsPath path names × IsForSomething o input names
IsForMemory o (put path json) input = (names : List (List ℕ)) × IsPath path names × IsForPutting o input names
IsForMemory o (drop path) input = (names : List (List ℕ)) × IsPath path names × IsForSomething o input names
IsForMemory o (find text) input = WantsFor o text input
IsForMemory o (patch text most) input = IsOne o input
IsForMemory o (merge text) input = IsOne o input
IsForMemory o as_json input = HasValue (chars input)
IsForMemory o request input = ⊥

-- the fault is true of the input's bytes, and what a command makes of them under the options can end with it
abbrev pub IsFaultOn : {A : Type 0} → Options → Request → List ℕ → Fault A → Type 0
IsFaultOn o request input (Input error) = IsRefusalOf o input error × IsToldFreely request error
IsFaultOn o request input NotObject = FindsNoObject o request input
IsFaultOn o request input NotArray = FindsNoArray o request input
IsFaultOn o request input NoSetting = FindsNothing o request input
IsFaultOn o request input OnTheWay = FindsInTheWay o request input
IsFaultOn o request input NoSuchValue = RefersToNone o request input
IsFaultOn o request input (RepeatedName name) = NamesTwice o request input (chars_of name)
IsFaultOn o request input (Operation fault) = StopsAt o request input fault
IsFaultOn {A} o request input (TooLarge operation bytes) = GrowsTooLarge A o request input operation bytes
IsFaultOn o request input NoRoot = LacksRoot request input
IsFaultOn o request input (NonFinite at) = HasNoJsonAt request input at.line at.column
IsFaultOn o request input NotUtf8 = ¬ (IsUtf8 input)
IsFaultOn o request input (Edit OutOfMemory) = IsForMemory o request input
IsFaultOn o request input (Edit NestingDepthExceeded) = NestsTooDeep o request input
IsFaultOn o request input other = ⊥

-- memory is wanting for the text that the command writes
abbrev pub IsForText : {A : Type 0} → Options → Request → List ℕ → Fault A → Type 0
IsForText {A} o request input fault = (fault ≡ Edit OutOfMemory) × (text : List ℕ) × IsLeft A o request input text

-- it is true of the command's path, JSON text, pointer or patch; or path and JSON text are as they have to be, and it is true of the input's bytes, or of what is to be written
abbrev pub IsCause : {A : Type 0} → Options → Request → List ℕ → Fault A → Type 0
IsCause o request input fault = IsFaultOfArgument o request fault ⊎ (IsReady request × (IsFaultOn o request input fault ⊎ IsForText o request input fault))

-- bytes that are not UTF-8 are told as such, where the command's path and JSON text are as they have to be
abbrev pub IsNoText : {A : Type 0} → Options → Request → Fault A → Type 0
IsNoText o request fault = IsFaultOfArgument o request fault ⊎ (IsReady request × (fault ≡ NotUtf8))

-- what the fault of a run tells of the input's bytes is true; allocation failure may be told before they are read
abbrev pub TellsOfInput : {A : Type 0} → Request → List ℕ → Fault A → Type 0
TellsOfInput request input Read = Unit {0}
TellsOfInput request input Write = Unit {0}
TellsOfInput request input (Path error) = Unit {0}
TellsOfInput request input NotNames = Unit {0}
TellsOfInput request input (Argument error) = Unit {0}
TellsOfInput request input NoValue = Unit {0}
TellsOfInput request input (Pointer error) = Unit {0}
TellsOfInput request input (Patch error) = Unit {0}
TellsOfInput request input (MergePatch error) = Unit {0}
TellsOfInput request input (Edit OutOfMemory) = Unit {0}
TellsOfInput request input other = IsFaultOn all_on request input other

-- and what it tells of the command's path, JSON text, pointer or patch; whatever is told of the input, or of reading and writing, path and JSON text are as they have to be, and allocation failure
-- is told of one of the four or behind them
abbrev pub TellsOfArgument : {A : Type 0} → Request → Fault A → Type 0
TellsOfArgument {A} request (Path error) = IsFaultOfArgument {A = A} all_on request (Path error)
TellsOfArgument {A} request NotNames = IsFaultOfArgument {A = A} all_on request NotNames
TellsOfArgument {A} request (Argument error) = IsFaultOfArgument {A = A} all_on request (Argument error)
TellsOfArgument {A} request NoValue = IsFaultOfArgument {A = A} all_on request NoValue
TellsOfArgument {A} request (Pointer error) = IsFaultOfArgument {A = A} all_on request (Pointer error)
TellsOfArgument request (Patch error) = IsFaultOfArgument all_on request (Patch error)
TellsOfArgument request (MergePatch error) = IsFaultOfArgument all_on request (MergePatch error)
TellsOfArgument {A} request (Edit error) = IsFaultOfArgument {A = A} all_on request (Edit error) ⊎ IsReady request
TellsOfArgument request other = IsReady request

-- with these the source was read to its end
abbrev pub EndsBehindInput : {A : Type 0} → Fault A → Type 0
EndsBehindInput (Input error) = Unit {0}
EndsBehindInput NotObject = Unit {0}
EndsBehindInput NotArray = Unit {0}
EndsBehindInput NoSetting = Unit {0}
EndsBehindInput OnTheWay = Unit {0}
EndsBehindInput NoSuchValue = Unit {0}
EndsBehindInput (RepeatedName name) = Unit {0}
EndsBehindInput (Operation fault) = Unit {0}
EndsBehindInput (TooLarge operation bytes) = Unit {0}
EndsBehindInput NoRoot = Unit {0}
EndsBehindInput (NonFinite at) = Unit {0}
EndsBehindInput NotUtf8 = Unit {0}
EndsBehindInput (Edit NestingDepthExceeded) = Unit {0}
EndsBehindInput Write = Unit {0}
EndsBehindInput other = ⊥

-- Want of memory is told, by the counts of reads that gave nothing, before the end of a source of these bytes; or behind it, and no other fault is told of the input
-- that is seen without memory.
abbrev pub IsBeforeOrForMemory : Request → ℕ → ℕ → Option (List ℕ) → Type 0
IsBeforeOrForMemory request old new known = (new ≡ old) ⊎ ((new ≡ one_more old) × IfSome known (IsForMemory all_on request))

-- a run of the program can end with the fault
abbrev pub EndsRun : {A : Type 0} → Fault A → Type 0
EndsRun (Edit OutOfMemory) = Unit {0}
EndsRun (Edit NestingDepthExceeded) = Unit {0}
EndsRun (Edit other) = ⊥
EndsRun Usage = ⊥
EndsRun other = Unit {0}

-- with these nothing has been read
abbrev pub EndsUnread : {A : Type 0} → Fault A → Type 0
EndsUnread (Path error) = Unit {0}
EndsUnread NotNames = Unit {0}
EndsUnread (Argument error) = Unit {0}
EndsUnread NoValue = Unit {0}
EndsUnread (Pointer error) = Unit {0}
EndsUnread (Patch error) = Unit {0}
EndsUnread (MergePatch error) = Unit {0}
EndsUnread other = ⊥

-- taking a property out of the document's object, or sorting it, can end with the fault, where the text of these bytes is that of the document
abbrev pub EndsOnObject : {A : Type 0} → Options → List ℕ → Fault A → Type 0
EndsOnObject o bytes NotObject = IsNoObject o bytes
EndsOnObject o bytes (Edit OutOfMemory) = HasKind is_object o bytes
EndsOnObject o bytes other = ⊥

-- setting the value v of one of this name can end with it
abbrev pub EndsSetting : {A : Type 0} → Options → List ℕ → List ℕ → Plain → Fault A → Type 0
EndsSetting o bytes name v NotObject = HasAnother is_object o bytes
EndsSetting o bytes name v (Edit OutOfMemory) = MayHave is_object o bytes
EndsSetting o bytes name v (Edit NestingDepthExceeded) = ¬ (FitsAt (name ∷ []) v)
EndsSetting o bytes name v other = ⊥

-- and so can appending the element v
abbrev pub EndsAppending : {A : Type 0} → Options → List ℕ → Plain → Fault A → Type 0
EndsAppending o bytes v NotArray = HasAnother is_array o bytes
EndsAppending o bytes v (Edit OutOfMemory) = MayHave is_array o bytes
EndsAppending o bytes v (Edit NestingDepthExceeded) = ¬ (FitsInArray v)
EndsAppending o bytes v other = ⊥

-- getting what stands at names can end with it
abbrev pub EndsGetting : {A : Type 0} → Options → List ℕ → List (List ℕ) → Fault A → Type 0
EndsGetting o bytes names NoSetting = HasNothingAt o bytes names
EndsGetting o bytes names (Edit OutOfMemory) = IsForSomething o bytes names
EndsGetting o bytes names other = ⊥

-- and so can putting the value v there
abbrev pub EndsPutting : {A : Type 0} → Options → List ℕ → List (List ℕ) → Plain → Fault A → Type 0
EndsPutting o bytes names v OnTheWay = HasInTheWay o bytes names
EndsPutting o bytes names v (Edit OutOfMemory) = IsForPutting o bytes names
EndsPutting o bytes names v (Edit NestingDepthExceeded) = ¬ (FitsAt names v)
EndsPutting o bytes names v other = ⊥

-- dropping what stands there can end with it
abbrev pub EndsDropping : {A : Type 0} → Options → List ℕ → List (List ℕ) → Fault A → Type 0
EndsDropping o bytes names (Edit OutOfMemory) = IsForSomething o bytes names
EndsDropping o bytes names other = ⊥
