-- Why a text is no patch.
use Rattle.std.specs.Prelude.{◌≡◌, ◌≢◌, ◌⊎◌, ℕ, suc, true, List, ◌∷◌, [], ◌++◌, Option, Some, Contains, chars, codes}
use Rattle.jsonc_walk.specs.Faults.{ParseFault}
use Rattle.jsonc_walk.specs.Refusals.{RefusesText}
use Rattle.jsonc_text.specs.Faults.{IsFault}
use Rattle.jsonc_text.specs.Grammar.{IsDocument}
use Rattle.jsonc_text.specs.Options.{Options}
use Rattle.jsonc_text.specs.Plain.{Plain, string, array, object, Items, item, Members}
use Rattle.jsonc_insert.specs.named.Members.{LacksMember}
use Rattle.jsonc_layout.specs.input.Views.{chars_of}
use Rattle.jsonc_parser.specs.patch.Equality.{HasMember}
use Rattle.jsonc_parser.specs.patch.Operations as value
use Rattle.jsonc_parser.specs.patch.PatchTexts.{IsNamed, IsOperation}
use Rattle.jsonc_parser.specs.patch.Pointer.{IsPointerFault}
use Rattle.jsonc_parser.specs.patch.References.{IsItem, IsRepeated}
use Rattle.jsonc_parser.specs.declared.patch.operation.Member.{Member}
use Rattle.jsonc_parser.specs.declared.patch.operation.Member.TheVariants.{Op, Path, From, Value}
use Rattle.jsonc_parser.specs.declared.patch.operation.OperationFault.{OperationFault}
use Rattle.jsonc_parser.specs.declared.patch.operation.OperationFault.TheVariants.{NotAnObject, Missing, Wrong, Pointer, RepeatedName, OutOfMemory}
use Rattle.jsonc_parser.specs.declared.patch.reading.PatchError.{PatchError}
use Rattle.jsonc_parser.specs.declared.patch.reading.PatchError.TheVariants as error

-- the name of a member that the standard names
abbrev pub member_name : Member → List ℕ
member_name Op = codes "op"
member_name Path = codes "path"
member_name From = codes "from"
member_name Value = codes "value"

-- the names of operations with a value, and with a second pointer
abbrev pub with_value : List (List ℕ)
with_value = codes "add" ∷ codes "replace" ∷ codes "test" ∷ []

abbrev pub with_source : List (List ℕ)
with_source = codes "move" ∷ codes "copy" ∷ []

abbrev pub IsNamedOneOf : List (List ℕ) → Members → Type 0
IsNamedOneOf names ms = (name : List ℕ) × Contains names name × IsNamed name ms

-- the operation has the member
abbrev pub Needs : Member → Members → Type 0
Needs Op ms = Unit {0}
Needs Path ms = Unit {0}
Needs From ms = IsNamedOneOf with_source ms
Needs Value ms = IsNamedOneOf with_value ms

-- the value of the member is no name of an operation, or no string; a value is never wrong
abbrev pub IsWrong : Member → Plain → Type 0
IsWrong Op v = (name : List ℕ) → v ≡ string name → Contains (codes "remove" ∷ with_value ++ with_source) name → ⊥
IsWrong Path v = (s : List ℕ) → v ≢ string s
IsWrong From v = (s : List ℕ) → v ≢ string s
IsWrong Value v = ⊥

-- more than one member of an object in the value has this name
pub data RepeatsName (name : List ℕ) : Plain → Type 0 where
  repeats_here : {ms : Members} → IsRepeated name ms → RepeatsName name (object ms)
  repeats_in_member : {n : List ℕ} {v : Plain} {ms : Members} → HasMember n v ms → RepeatsName name v → RepeatsName name (object ms)
  repeats_in_element : {i : ℕ} {v : Plain} {vs : Items} → IsItem v i vs → RepeatsName name v → RepeatsName name (array vs)

-- the operation has this member, with this value
abbrev pub HasNeeded : Member → Plain → Members → Type 0
HasNeeded m v ms = Needs m ms × HasMember (member_name m) v ms

-- the member is a string
abbrev pub IsForText : Member → Type 0
IsForText Value = ⊥
IsForText other = Unit {0}

module _ {A : Type 0} where
  -- more than one member has the name of the fault; or more than one member of an object in a value
  abbrev pub IsFaultOfNames : Members → OperationFault A → Type 0
  IsFaultOfNames ms (RepeatedName name) = IsRepeated (chars_of name) ms
  IsFaultOfNames ms OutOfMemory = Unit {0}
  IsFaultOfNames ms other = ⊥

  abbrev pub IsFaultOfValue : Plain → OperationFault A → Type 0
  IsFaultOfValue v (RepeatedName name) = RepeatsName (chars_of name) v
  IsFaultOfValue v OutOfMemory = Unit {0}
  IsFaultOfValue v other = ⊥

  -- why members are no operation
  abbrev pub IsFaultOfMembers : Members → OperationFault A → Type 0
  IsFaultOfMembers ms NotAnObject = ⊥
  IsFaultOfMembers ms (Missing m) = Needs m ms × LacksMember (member_name m) ms
  IsFaultOfMembers ms (Wrong m) = (v : Plain) × HasNeeded m v ms × IsWrong m v
  IsFaultOfMembers ms (Pointer m e) = (s : List ℕ) × HasNeeded m (string s) ms × IsPointerFault s e
  IsFaultOfMembers ms (RepeatedName name) = IsRepeated (chars_of name) ms ⊎ ((v : Plain) × HasNeeded Value v ms × RepeatsName (chars_of name) v)
  IsFaultOfMembers ms OutOfMemory = Unit {0}

  -- why a value is none
  pub data IsFaultOfOperation : Plain → OperationFault A → Type 0 where
    of_another : {w : Plain} → ((ms : Members) → w ≢ object ms) → IsFaultOfOperation w NotAnObject
    of_members : {ms : Members} {fault : OperationFault A} → IsFaultOfMembers ms fault → IsFaultOfOperation (object ms) fault

  -- the value of this number is the first that is no operation
  pub data IsFirstFault (fault : OperationFault A) : ℕ → Items → Type 0 where
    this_fault : {w : Plain} {vs : Items} → IsFaultOfOperation w fault → IsFirstFault fault 0 (item w vs)
    later_fault : {i : ℕ} {w : Plain} {o : value.Operation} {vs : Items} → IsOperation w o → IsFirstFault fault i vs → IsFirstFault fault (suc i) (item w vs)

  abbrev pub IsFaultOfItems : Items → PatchError A → Type 0
  IsFaultOfItems vs (error.Operation i fault) = IsFirstFault fault i vs
  IsFaultOfItems vs other = ⊥

  -- why the text of these bytes is no patch under these options
  abbrev pub IsFaultOfPatch : Options → List ℕ → PatchError A → Type 0
  IsFaultOfPatch o bytes (error.Parse e) = RefusesText o bytes e × IsFault bytes e × ParseFault o bytes true e
  IsFaultOfPatch o bytes error.NotAnArray = (w : Option Plain) × IsDocument o (chars bytes) w × ((vs : Items) → w ≢ Some (array vs))
  IsFaultOfPatch o bytes (error.Operation i fault) = (vs : Items) × IsDocument o (chars bytes) (Some (array vs)) × IsFirstFault fault i vs
