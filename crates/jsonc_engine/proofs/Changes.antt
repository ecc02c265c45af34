-- What a command makes of a document that was read, and why it does not.
use Rattle.std.proofs.Common.{◌≡◌, ℕ, List, Option, Some, None, Result, Ok, Err, IfErr, IfOk, OnErr, OnOk, refl, sym, ap, subst, ◌∙◌, chars}
use Rattle.std.specs.Borrow.{Bor}
use Rattle.std.specs.declared.string.String.{String}
use Rattle.std.specs.declared.vec.Vec.{Vec}
use Rattle.std.specs.Prelude.{IfSome, IsErrAnd}
use Rattle.jsonc_text.specs.Options.{Options}
use Rattle.jsonc_layout.specs.input.Views.{plain}
use Rattle.jsonc_layout.specs.declared.input.value.CstInputValue.{CstInputValue}
use Rattle.jsonc_tree.specs.OrderedTree.{ordered_tree, printed}
use Rattle.jsonc_tree.specs.Tree.{Node}
use Rattle.jsonc_sound.specs.Lines.{DocumentLinesEnd}
use Rattle.jsonc_sound.specs.Shape.{DocumentShaped}
use Rattle.jsonc_sound.proofs.LooseLines.{document_loosens}
use Rattle.jsonc_sound.specs.SoundTrees.{SoundTree}
use Rattle.jsonc_engine.specs.Parser.{LiesIn}
use Rattle.jsonc_text.specs.declared.edit.EditError.TheVariants.{NestingDepthExceeded, OutOfMemory}
use Rattle.jsonc_parser.specs.paths.Found.{names_of}
use Rattle.jsonc_engine.specs.declared.task.Change.{Change}
use Rattle.jsonc_engine.specs.declared.task.Change.TheVariants.{Append, Drop, Put, Remove, Set, Sort}
use Rattle.jsonc_engine.specs.declared.fault.Fault.{Fault}
use Rattle.jsonc_engine.specs.declared.output.Made.{Made}
use Rattle.jsonc_engine.specs.declared.output.Output.{Output}
use Rattle.jsonc_engine.specs.declared.fault.Fault.TheVariants.{Edit, NoSetting, NotArray, NotObject, OnTheWay}
use Rattle.jsonc_engine.specs.Appending.{AppendsIfSound}
use Rattle.jsonc_engine.specs.Change.{HasNumbersOf, IsChangeFor, for_set, for_append, for_remove, for_sort, for_put, for_drop, IsTaskFor, for_check, for_print, for_json, for_work, IsWorkFor, for_change, for_get, for_find, for_patch, for_merge, MakesIfSound}
use Rattle.jsonc_parser.specs.patch.Patches.{operations_in}
use Rattle.jsonc_parser.specs.patch.Pointer.{tokens_of}
use Rattle.jsonc_parser.specs.declared.patch.pointer.Pointer.{Pointer}
use Rattle.jsonc_parser.specs.declared.patch.reading.Patch.{Patch}
use Rattle.jsonc_engine.specs.Finding.{IsPointer}
use Rattle.jsonc_engine.specs.Patched.{IsMergePatchOf, IsPatchOf}
use Rattle.jsonc_engine.specs.declared.task.Task.TheVariants.{Json, OnDocument, Stay}
use Rattle.jsonc_engine.specs.declared.task.Work.{Work}
use Rattle.jsonc_engine.specs.declared.task.Work.TheVariants.{Apply, Find, Get, Make, Merge}
use Rattle.jsonc_engine.specs.Command.{Request, append, as_json, check, drop, find, get, merge, patch, print, put, remove, set, sort}
use Rattle.jsonc_engine.specs.Fault.{EndsAppending, EndsDropping, EndsGetting, EndsOnObject, EndsPutting, EndsSetting, IsFaultOn}
use Rattle.jsonc_engine.specs.Input.{IsInputOf}
use Rattle.jsonc_engine.specs.Output.{IsLeft, made_bytes, output_bytes}
use Rattle.jsonc_engine.specs.Removal.{LosesIfSound}
use Rattle.jsonc_engine.specs.Setting.{SetsIfSound}
use Rattle.jsonc_engine.specs.Settings.{DropsIfSound, PutsIfSound, ShownIfSound}
use Rattle.jsonc_engine.specs.Sorting.{SortsIfSound}

-- a parsed document is sound
pub parsed_sound : (o : Options) (ns : List Node) → DocumentShaped o (ordered_tree ns 0) → DocumentLinesEnd (ordered_tree ns 0) → SoundTree o (ordered_tree ns 0)
parsed_sound o ns shaped lines = record { shaped = shaped; lines = document_loosens lines }

-- what follows of a success
pub ok_so : {T E : Type 0} {P Q : Type 0} (r : Result T E) → (Q → P) → OnOk r Q → OnOk r P
ok_so (Ok x) f h = f h
ok_so (Err e) f h = tt

-- and what is true of any success
pub on_ok : {T E : Type 0} {P : Type 0} (r : Result T E) → P → OnOk r P
on_ok (Ok x) h = h
on_ok (Err e) h = tt

-- what is true of any refusal
pub err_so : {T E : Type 0} {P Q : Type 0} (r : Result T E) → (Q → P) → OnErr r Q → OnErr r P
err_so (Ok x) f h = tt
err_so (Err e) f h = f h

-- and of one that `?` makes
pub err_by : {A T : Type 0} (P : Fault A → Type 0) (fault : Fault A) (r : Result T (Fault A)) → IsErrAnd r (λ told. told ≡ fault) → P fault → IfErr r P
err_by P fault (Ok x) told h = tt
err_by P fault (Err e) told h = subst P (sym told) h

module _ {A : Type 0} (o : Options) where
  -- each change is what its command makes
  pub set_makes : (request : Request) (old new : List Node) (name : Bor (List ℕ)) (value : CstInputValue A) → IsChangeFor request (Set name value)
      → SetsIfSound o (chars name.now) (plain value) old new → MakesIfSound o request old new
  set_makes _ old new _ _ (for_set name json value argument) sets = λ sound. (plain value, argument, sets sound)

  pub append_makes : (request : Request) (old new : List Node) (value : CstInputValue A) → IsChangeFor request (Append value) → AppendsIfSound o (plain value) old new
      → MakesIfSound o request old new
  append_makes _ old new _ (for_append json value argument) appends = λ sound. (plain value, argument, appends sound)

  pub remove_makes : (request : Request) (old new : List Node) (name : Bor (List ℕ)) → IsChangeFor {A = A} request (Remove name) → LosesIfSound o (chars name.now) old new
      → MakesIfSound o request old new
  remove_makes _ old new _ (for_remove name) loses = λ sound. loses sound

  pub sort_makes : (request : Request) (old new : List Node) → IsChangeFor {A = A} request Sort → SortsIfSound o old new → MakesIfSound o request old new
  sort_makes _ old new for_sort sorts = λ sound. sorts sound

  put_so : (request : Request) (old new : List Node) (names : Vec (String A) A) (value : CstInputValue A) → IsChangeFor request (Put names value)
      → PutsIfSound o (plain value) (names_of names.items) old new → MakesIfSound o request old new
  put_so _ old new _ _ (for_put path json names value is argument) puts = λ sound. (names_of names.items, plain value, is, argument, puts sound)

  pub put_makes : (request : Request) (old new : List Node) (names : Vec (String A) A) (value : CstInputValue A) → IsChangeFor request (Put names value) → (l : List (String A)) → l ≡ names.items
      → PutsIfSound o (plain value) (names_of l) old new → MakesIfSound o request old new
  put_makes request old new names value is l same puts = put_so request old new names value is (subst (λ (k : List (String A)). PutsIfSound o (plain value) (names_of k) old new) same puts)

  drop_so : (request : Request) (old new : List Node) (names : Vec (String A) A) → IsChangeFor request (Drop names) → DropsIfSound o (names_of names.items) old new → MakesIfSound o request old new
  drop_so _ old new _ (for_drop path names is) drops = λ sound. (names_of names.items, is, drops sound)

  pub drop_makes : (request : Request) (old new : List Node) (names : Vec (String A) A) → IsChangeFor request (Drop names) → (l : List (String A)) → l ≡ names.items
      → DropsIfSound o (names_of l) old new → MakesIfSound o request old new
  drop_makes request old new names is l same drops = drop_so request old new names is (subst (λ (k : List (String A)). DropsIfSound o (names_of k) old new) same drops)

  -- what is put where something stands in the way is refused, and what is got where nothing stands
  put_refused : (request : Request) (ns : List Node) (names : Vec (String A) A) (value : CstInputValue A) → IsChangeFor request (Put names value) → (fault : Fault A)
      → EndsPutting o (printed (ordered_tree ns 0)) (names_of names.items) (plain value) fault → IsFaultOn o request (printed (ordered_tree ns 0)) fault
  put_refused _ ns _ _ (for_put path json names value is argument) OnTheWay ends = (names_of names.items, is, ends)
  put_refused _ ns _ _ (for_put path json names value is argument) (Edit OutOfMemory) ends = (names_of names.items, is, ends)
  put_refused _ ns _ _ (for_put path json names value is argument) (Edit NestingDepthExceeded) ends = (names_of names.items, plain value, is, argument, ends)
  put_refused _ ns _ _ (for_put path json names value is argument) _ ends = absurd ends

  pub put_told : (request : Request) (ns : List Node) (names : Vec (String A) A) (value : CstInputValue A) → IsChangeFor request (Put names value) → (l : List (String A)) → l ≡ names.items
      → (r : Result (Unit {0}) (Fault A)) → IfErr r (EndsPutting o (printed (ordered_tree ns 0)) (names_of l) (plain value)) → IfErr r (IsFaultOn o request (printed (ordered_tree ns 0)))
  put_told request ns names value is l same (Ok x) ends = tt
  put_told request ns names value is l same (Err fault) ends =
      put_refused request ns names value is fault (subst (λ (k : List (String A)). EndsPutting o (printed (ordered_tree ns 0)) (names_of k) (plain value) fault) same ends)

  get_refused : (request : Request) (ns : List Node) (names : Vec (String A) A) → IsWorkFor o request (Get names) → (fault : Fault A)
      → EndsGetting o (printed (ordered_tree ns 0)) (names_of names.items) fault → IsFaultOn o request (printed (ordered_tree ns 0)) fault
  get_refused _ ns _ (for_get path names is) NoSetting ends = (names_of names.items, is, ends)
  get_refused _ ns _ (for_get path names is) (Edit OutOfMemory) ends = (names_of names.items, is, ends)
  get_refused _ ns _ (for_get path names is) _ ends = absurd ends

  pub get_told : (request : Request) (ns : List Node) (names : Vec (String A) A) → IsWorkFor o request (Get names) → (l : List (String A)) → l ≡ names.items → (r : Result (Output A) (Fault A))
      → IfErr r (EndsGetting o (printed (ordered_tree ns 0)) (names_of l)) → IfErr r (IsFaultOn o request (printed (ordered_tree ns 0)))
  get_told request ns names is l same (Ok output) ends = tt
  get_told request ns names is l same (Err fault) ends =
      get_refused request ns names is fault (subst (λ (k : List (String A)). EndsGetting o (printed (ordered_tree ns 0)) (names_of k) fault) same ends)

  -- the value that is got is what is to be written
  got_so : (request : Request) (ns : List Node) (names : Vec (String A) A) (output : List ℕ) → IsWorkFor o request (Get names) → SoundTree o (ordered_tree ns 0)
      → ShownIfSound o (names_of names.items) ns output → IsLeft A o request (printed (ordered_tree ns 0)) output
  got_so _ ns _ output (for_get path names is) sound shown = record { names = names_of names.items; path_is = is; nodes = ns; reads = refl; shown = shown sound }

  pub got_by : (request : Request) (ns : List Node) (names : Vec (String A) A) → IsWorkFor o request (Get names) → (l : List (String A)) → l ≡ names.items → SoundTree o (ordered_tree ns 0)
      → (r : Result (Output A) (Fault A)) → IfOk r (λ output. ShownIfSound o (names_of l) ns (output_bytes output)) → IfOk r (λ output. IsLeft A o request (printed (ordered_tree ns 0)) (output_bytes output))
  got_by request ns names is l same sound (Ok output) shown =
      got_so request ns names (output_bytes output) is sound (subst (λ (k : List (String A)). ShownIfSound o (names_of k) ns (output_bytes output)) same shown)
  got_by request ns names is l same sound (Err fault) shown = tt

  -- and what refuses any other change is true of the document
  set_refused : (request : Request) (ns : List Node) (name : Bor (List ℕ)) (value : CstInputValue A) → IsChangeFor request (Set name value) → (fault : Fault A)
      → EndsSetting o (printed (ordered_tree ns 0)) (chars name.now) (plain value) fault → IsFaultOn o request (printed (ordered_tree ns 0)) fault
  set_refused _ ns _ _ (for_set name json value argument) NotObject ends = ends
  set_refused _ ns _ _ (for_set name json value argument) (Edit OutOfMemory) ends = ends
  set_refused _ ns _ _ (for_set name json value argument) (Edit NestingDepthExceeded) ends = (plain value, argument, ends)
  set_refused _ ns _ _ (for_set name json value argument) _ ends = absurd ends

  pub set_told : (request : Request) (ns : List Node) (name : Bor (List ℕ)) (value : CstInputValue A) → IsChangeFor request (Set name value) → (r : Result (Unit {0}) (Fault A))
      → IfErr r (EndsSetting o (printed (ordered_tree ns 0)) (chars name.now) (plain value)) → IfErr r (IsFaultOn o request (printed (ordered_tree ns 0)))
  set_told request ns name value is (Ok x) ends = tt
  set_told request ns name value is (Err fault) ends = set_refused request ns name value is fault ends

  append_refused : (request : Request) (ns : List Node) (value : CstInputValue A) → IsChangeFor request (Append value) → (fault : Fault A)
      → EndsAppending o (printed (ordered_tree ns 0)) (plain value) fault → IsFaultOn o request (printed (ordered_tree ns 0)) fault
  append_refused _ ns _ (for_append json value argument) NotArray ends = ends
  append_refused _ ns _ (for_append json value argument) (Edit OutOfMemory) ends = ends
  append_refused _ ns _ (for_append json value argument) (Edit NestingDepthExceeded) ends = (plain value, argument, ends)
  append_refused _ ns _ (for_append json value argument) _ ends = absurd ends

  pub append_told : (request : Request) (ns : List Node) (value : CstInputValue A) → IsChangeFor request (Append value) → (r : Result (Unit {0}) (Fault A))
      → IfErr r (EndsAppending o (printed (ordered_tree ns 0)) (plain value)) → IfErr r (IsFaultOn o request (printed (ordered_tree ns 0)))
  append_told request ns value is (Ok x) ends = tt
  append_told request ns value is (Err fault) ends = append_refused request ns value is fault ends

  remove_refused : (request : Request) (ns : List Node) (name : Bor (List ℕ)) → IsChangeFor {A = A} request (Remove name) → (fault : Fault A)
      → EndsOnObject o (printed (ordered_tree ns 0)) fault → IsFaultOn o request (printed (ordered_tree ns 0)) fault
  remove_refused _ ns _ (for_remove name) NotObject ends = ends
  remove_refused _ ns _ (for_remove name) (Edit OutOfMemory) ends = ends
  remove_refused _ ns _ (for_remove name) _ ends = absurd ends

  pub remove_told : (request : Request) (ns : List Node) (name : Bor (List ℕ)) → IsChangeFor {A = A} request (Remove name) → (r : Result (Unit {0}) (Fault A))
      → IfErr r (EndsOnObject o (printed (ordered_tree ns 0))) → IfErr r (IsFaultOn o request (printed (ordered_tree ns 0)))
  remove_told request ns name is (Ok x) ends = tt
  remove_told request ns name is (Err fault) ends = remove_refused request ns name is fault ends

  sort_refused : (request : Request) (ns : List Node) → IsChangeFor {A = A} request Sort → (fault : Fault A)
      → EndsOnObject o (printed (ordered_tree ns 0)) fault → IsFaultOn o request (printed (ordered_tree ns 0)) fault
  sort_refused _ ns for_sort NotObject ends = ends
  sort_refused _ ns for_sort (Edit OutOfMemory) ends = ends
  sort_refused _ ns for_sort _ ends = absurd ends

  pub sort_told : (request : Request) (ns : List Node) → IsChangeFor {A = A} request Sort → (r : Result (Unit {0}) (Fault A)) → IfErr r (EndsOnObject o (printed (ordered_tree ns 0)))
      → IfErr r (IsFaultOn o request (printed (ordered_tree ns 0)))
  sort_told request ns is (Ok x) ends = tt
  sort_told request ns is (Err fault) ends = sort_refused request ns is fault ends

  drop_refused : (request : Request) (ns : List Node) (names : Vec (String A) A) → IsChangeFor request (Drop names) → (fault : Fault A)
      → EndsDropping o (printed (ordered_tree ns 0)) (names_of names.items) fault → IsFaultOn o request (printed (ordered_tree ns 0)) fault
  drop_refused _ ns _ (for_drop path names is) (Edit OutOfMemory) ends = (names_of names.items, is, ends)
  drop_refused _ ns _ (for_drop path names is) _ ends = absurd ends

  pub drop_told : (request : Request) (ns : List Node) (names : Vec (String A) A) → IsChangeFor request (Drop names) → (l : List (String A)) → l ≡ names.items → (r : Result (Unit {0}) (Fault A))
      → IfErr r (EndsDropping o (printed (ordered_tree ns 0)) (names_of l)) → IfErr r (IsFaultOn o request (printed (ordered_tree ns 0)))
  drop_told request ns names is l same (Ok x) ends = tt
  drop_told request ns names is l same (Err fault) ends =
      drop_refused request ns names is fault (subst (λ (k : List (String A)). EndsDropping o (printed (ordered_tree ns 0)) (names_of k) fault) same ends)

-- so the document of the input is left
module _ {A : Type 0} (o : Options) (change : Change A) where
  no_check : (x : Change A) → IsChangeFor check x → ⊥
  no_check _ h = elim h [ ]

  no_print : (x : Change A) → IsChangeFor print x → ⊥
  no_print _ h = elim h [ ]

  no_get : (path : List ℕ) (x : Change A) → IsChangeFor (get path) x → ⊥
  no_get _ _ h = elim h [ ]

  no_find : (pointer : List ℕ) (x : Change A) → IsChangeFor (find pointer) x → ⊥
  no_find _ _ h = elim h [ ]

  no_patch : (text : List ℕ) (most : ℕ) (x : Change A) → IsChangeFor (patch text most) x → ⊥
  no_patch _ _ _ h = elim h [ ]

  no_merge : (text : List ℕ) (x : Change A) → IsChangeFor (merge text) x → ⊥
  no_merge _ _ h = elim h [ ]

  no_json : (x : Change A) → IsChangeFor as_json x → ⊥
  no_json _ h = elim h [ ]

  pub left_by : (request : Request) (input : List ℕ) (old new : List Node) → IsChangeFor request change → printed (ordered_tree old 0) ≡ input → SoundTree o (ordered_tree old 0) → LiesIn o input (ordered_tree old 0)
      → (HasNumbersOf o request → IsInputOf o (printed (ordered_tree new 0))) → MakesIfSound o request old new → IsLeft A o request input (printed (ordered_tree new 0))
  left_by check input old new is reads sound laid accepted makes = absurd (no_check change is)
  left_by print input old new is reads sound laid accepted makes = absurd (no_print change is)
  left_by (get path) input old new is reads sound laid accepted makes = absurd (no_get path change is)
  left_by (find pointer) input old new is reads sound laid accepted makes = absurd (no_find pointer change is)
  left_by (patch text most) input old new is reads sound laid accepted makes = absurd (no_patch text most change is)
  left_by (merge text) input old new is reads sound laid accepted makes = absurd (no_merge text change is)
  left_by as_json input old new is reads sound laid accepted makes = absurd (no_json change is)
  left_by (set name json) input old new is reads sound laid accepted makes = record { old = old; new = new; reads = reads; laid = laid; sound = sound; makes = makes sound; prints = refl; accepted = accepted }
  left_by (append json) input old new is reads sound laid accepted makes = record { old = old; new = new; reads = reads; laid = laid; sound = sound; makes = makes sound; prints = refl; accepted = accepted }
  left_by (remove name) input old new is reads sound laid accepted makes = record { old = old; new = new; reads = reads; laid = laid; sound = sound; makes = makes sound; prints = refl; accepted = accepted }
  left_by sort input old new is reads sound laid accepted makes = record { old = old; new = new; reads = reads; laid = laid; sound = sound; makes = makes sound; prints = refl; accepted = accepted }
  left_by (put path json) input old new is reads sound laid accepted makes = record { old = old; new = new; reads = reads; laid = laid; sound = sound; makes = makes sound; prints = refl; accepted = accepted }
  left_by (drop path) input old new is reads sound laid accepted makes = record { old = old; new = new; reads = reads; laid = laid; sound = sound; makes = makes sound; prints = refl; accepted = accepted }

-- work, by its kind
module _ {A : Type 0} (o : Options) where
  pub change_of : (request : Request) (change : Change A) → IsWorkFor o request (Make change) → IsChangeFor request change
  change_of _ _ (for_change request change is) = is

  pub find_so : (P : Request → Type 0) (request : Request) (pointer : Pointer A) → IsWorkFor o request (Find pointer) → ((text : List ℕ) → IsPointer text (tokens_of pointer) → P (find text)) → P request
  find_so P _ _ (for_find text pointer is) h = h text is

  pub patch_so : (P : Request → Type 0) (request : Request) (read : Patch A) (most : ℕ) → IsWorkFor o request (Apply read most) → ((text : List ℕ) → IsPatchOf o text (operations_in read) → P (patch text most)) → P request
  patch_so P _ _ _ (for_patch text most read is) h = h text is

  pub merge_so : (P : Request → Type 0) (request : Request) (value : CstInputValue A) → IsWorkFor o request (Merge value) → ((text : List ℕ) → IsMergePatchOf o text (plain value) → P (merge text)) → P request
  merge_so P _ _ (for_merge text value is) h = h text is

  -- and a task
  pub work_of : (request : Request) (work : Work A) → IsTaskFor o request (OnDocument work) → IsWorkFor o request work
  work_of _ _ (for_work request work is) = is

  pub json_so : (P : Request → Type 0) (request : Request) → IsTaskFor {A = A} o request Json → P as_json → P request
  json_so P _ for_json h = h

  -- a text that stays is what is left
  stays_so : (request : Request) (input bytes : List ℕ) → IsTaskFor {A = A} o request Stay → bytes ≡ input → IsLeft A o request input bytes
  stays_so _ input bytes for_check same = same
  stays_so _ input bytes for_print same = same

  pub stays_left : (request : Request) (input : List ℕ) (r : Result (Made A) (Fault A)) → IsTaskFor {A = A} o request Stay → IfOk r (λ made. made_bytes made ≡ input)
      → IfOk r (λ made. IsLeft A o request input (made_bytes made))
  stays_left request input (Ok made) is same = stays_so request input (made_bytes made) is same
  stays_left request input (Err fault) is same = tt

-- what was read is the input, where that is known
pub of_input : (known : Option (List ℕ)) (read : List ℕ) (P : List ℕ → Type 0) → IfSome known (λ input. read ≡ input) → P read → IfSome known P
of_input None read P same h = tt
of_input (Some input) read P same h = subst P same h
