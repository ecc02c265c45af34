-- What a command makes of a document.
use Rattle.std.specs.Borrow.{Bor}
use Rattle.std.specs.Prelude.{◌≡◌, ℕ, List, Some, String, Vec, chars}
use Rattle.jsonc_text.specs.Options.{Options}
use Rattle.jsonc_text.specs.Plain.{Plain}
use Rattle.jsonc_edit.specs.Writing.{IsOfNumbers}
use Rattle.jsonc_layout.specs.input.Views.{plain}
use Rattle.jsonc_layout.specs.declared.input.value.CstInputValue.{CstInputValue}
use Rattle.jsonc_tree.specs.OrderedTree.{ordered_tree, printed}
use Rattle.jsonc_tree.specs.Tree.{Node}
use Rattle.jsonc_sound.specs.SoundTrees.{SoundTree}
use Rattle.jsonc_engine.specs.Parser.{LiesIn}
use Rattle.jsonc_parser.specs.patch.Patches.{operations_in}
use Rattle.jsonc_parser.specs.patch.Pointer.{tokens_of}
use Rattle.jsonc_parser.specs.paths.Found.{names_of}
use Rattle.jsonc_parser.specs.declared.patch.pointer.Pointer.{Pointer}
use Rattle.jsonc_parser.specs.declared.patch.reading.Patch.{Patch}
use Rattle.jsonc_engine.specs.declared.task.Task.{Task}
use Rattle.jsonc_engine.specs.declared.task.Task.TheVariants.{Json, OnDocument, Stay}
use Rattle.jsonc_engine.specs.declared.task.Work.{Work}
use Rattle.jsonc_engine.specs.declared.task.Work.TheVariants.{Apply, Find, Get, Make, Merge}
use Rattle.jsonc_engine.specs.declared.task.Change.{Change}
use Rattle.jsonc_engine.specs.declared.task.Change.TheVariants.{Append, Drop, Put, Remove, Set, Sort}
use Rattle.jsonc_engine.specs.Appending.{AppendsLast}
use Rattle.jsonc_engine.specs.Argument.{IsArgument, IsPath}
use Rattle.jsonc_engine.specs.Finding.{IsPointer}
use Rattle.jsonc_engine.specs.Input.{IsInputOf}
use Rattle.jsonc_engine.specs.Patched.{IsMergePatchOf, IsPatchOf}
use Rattle.jsonc_engine.specs.Command.{Request, json_of, check, print, set, append, remove, sort, get, find, put, drop, patch, merge, as_json}
use Rattle.jsonc_engine.specs.Removal.{LosesFirst}
use Rattle.jsonc_engine.specs.Setting.{SetsFirst}
use Rattle.jsonc_engine.specs.Settings.{DropsSetting, IsShownAt, PutsSetting}
use Rattle.jsonc_engine.specs.Sorting.{SortsByName}

-- the change is what the command asks for, with the names of its path and the value of its JSON text
pub data IsChangeFor {A : Type 0} : Request → Change A → Type 0 where
  for_set : (name : Bor (List ℕ)) (json : List ℕ) (value : CstInputValue A) → IsArgument json (plain value)
      → IsChangeFor (set name.now json) (Set name value)
  for_append : (json : List ℕ) (value : CstInputValue A) → IsArgument json (plain value) → IsChangeFor (append json) (Append value)
  for_remove : (name : Bor (List ℕ)) → IsChangeFor (remove name.now) (Remove name)
  for_sort : IsChangeFor sort Sort
  for_put : (path json : List ℕ) (names : Vec (String A) A) (value : CstInputValue A) → IsPath path (names_of names.items) → IsArgument json (plain value)
      → IsChangeFor (put path json) (Put names value)
  for_drop : (path : List ℕ) (names : Vec (String A) A) → IsPath path (names_of names.items) → IsChangeFor (drop path) (Drop names)

-- the work is what the command asks for: a change, names, a pointer, or a patch that is read under the options
pub data IsWorkFor {A : Type 0} (o : Options) : Request → Work A → Type 0 where
  for_change : (request : Request) (change : Change A) → IsChangeFor request change → IsWorkFor o request (Make change)
  for_get : (path : List ℕ) (names : Vec (String A) A) → IsPath path (names_of names.items) → IsWorkFor o (get path) (Get names)
  for_find : (text : List ℕ) (pointer : Pointer A) → IsPointer text (tokens_of pointer) → IsWorkFor o (find text) (Find pointer)
  for_patch : (text : List ℕ) (most : ℕ) (operations : Patch A) → IsPatchOf o text (operations_in operations) → IsWorkFor o (patch text most) (Apply operations most)
  for_merge : (text : List ℕ) (value : CstInputValue A) → IsMergePatchOf o text (plain value) → IsWorkFor o (merge text) (Merge value)

-- the task is to leave the text as it is, to write JSON, or such work
pub data IsTaskFor {A : Type 0} (o : Options) : Request → Task A → Type 0 where
  for_check : IsTaskFor o check Stay
  for_print : IsTaskFor o print Stay
  for_json : IsTaskFor o as_json Json
  for_work : (request : Request) (work : Work A) → IsWorkFor o request work → IsTaskFor o request (OnDocument work)

-- what a command makes of a sound document by a change
abbrev pub Makes : Options → Request → List Node → List Node → Type 0
Makes o (set name json) old new = (v : Plain) × IsArgument json v × SetsFirst (chars name) v old new
Makes o (append json) old new = (v : Plain) × IsArgument json v × AppendsLast v old new
Makes o (remove name) old new = LosesFirst (chars name) old new
Makes o sort old new = SortsByName old new
Makes o (put path json) old new = (names : List (List ℕ)) × (v : Plain) × IsPath path names × IsArgument json v × PutsSetting o v names old new
Makes o (drop path) old new = (names : List (List ℕ)) × IsPath path names × DropsSetting o names old new
Makes o request old new = ⊥

-- so it is if the document was sound
abbrev pub MakesIfSound : Options → Request → List Node → List Node → Type 0
MakesIfSound o request old new = SoundTree o (ordered_tree old 0) → Makes o request old new

-- the numbers of the value of the command's JSON text, if it has one, are, whole, numbers of these options; so it is of all options
abbrev pub HasNumbersOf : Options → Request → Type 0
HasNumbersOf o request = (json : List ℕ) → json_of request ≡ Some json → (v : Plain) → IsArgument json v → IsOfNumbers o v

-- The input is a document of the options, whose nodes are those that it is parsed into, and the output what it prints when the command is done. If the command writes
-- numbers of the options, `check` accepts the output under them.
pub record IsMadeOf (o : Options) (request : Request) (input output : List ℕ) : Type 0 where
  pub old : List Node
  pub new : List Node
  pub reads : printed (ordered_tree old 0) ≡ input
  pub laid : LiesIn o input (ordered_tree old 0)
  pub sound : SoundTree o (ordered_tree old 0)
  pub makes : Makes o request old new
  pub prints : printed (ordered_tree new 0) ≡ output
  pub accepted : HasNumbersOf o request → IsInputOf o output

-- the input is a document of the options, in whose value one stands at the names of the path; the output is that value as it is printed there, and a line feed
pub record IsGot (o : Options) (path input output : List ℕ) : Type 0 where
  pub names : List (List ℕ)
  pub path_is : IsPath path names
  pub nodes : List Node
  pub reads : printed (ordered_tree nodes 0) ≡ input
  pub shown : IsShownAt o names nodes output
