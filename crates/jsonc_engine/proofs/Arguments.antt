-- What the words of a command say, and what it asks for.
use Rattle.std.proofs.Common.{◌≡◌, List, ℕ, chars, Option, Some, None, IfSome, option_map, refl, sym, ap, subst, ◌∙◌}
use Rattle.std.specs.Borrow.{Bor}
use Rattle.std.specs.declared.string.String.{String}
use Rattle.std.specs.declared.vec.Vec.{Vec}
use Rattle.jsonc_text.specs.Options.{Options, all_on}
use Rattle.jsonc_text.specs.Plain.{Plain, collapse}
use Rattle.jsonc_text.specs.Grammar.{IsDocument}
use Rattle.jsonc_layout.specs.input.Views.{plain}
use Rattle.jsonc_layout.specs.declared.input.value.CstInputValue.{CstInputValue}
use Rattle.jsonc_edit.specs.Writing.{IsWritable}
use Rattle.jsonc_input.specs.Reads.{IsValueOfText}
use Rattle.jsonc_parser.specs.paths.Found.{names_of}
use Rattle.jsonc_parser.specs.patch.Patches.{operations_in}
use Rattle.jsonc_parser.specs.patch.Pointer.{tokens_of}
use Rattle.jsonc_parser.specs.declared.patch.pointer.Pointer.{Pointer}
use Rattle.jsonc_parser.specs.declared.patch.reading.Patch.{Patch}
use Rattle.jsonc_engine.specs.declared.task.Change.{Change}
use Rattle.jsonc_engine.specs.declared.task.Change.TheVariants.{Append, Drop, Remove, Set, Sort}
use Rattle.jsonc_engine.specs.declared.task.Task.{Task}
use Rattle.jsonc_engine.specs.declared.task.Task.TheVariants.{Json, OnDocument, Stay}
use Rattle.jsonc_engine.specs.declared.task.Work.{Work}
use Rattle.jsonc_engine.specs.declared.task.Work.TheVariants.{Apply, Find, Get, Make, Merge}
use Rattle.jsonc_engine.specs.declared.command.Place.{Place}
use Rattle.jsonc_engine.specs.declared.command.Place.TheVariants as kinds
use Rattle.jsonc_engine.specs.declared.command.Place.TheVariants.{Names}
use Rattle.jsonc_engine.specs.declared.command.Command.{Command}
use Rattle.jsonc_engine.specs.declared.command.Command.TheVariants as command
use Rattle.jsonc_engine.specs.declared.fault.Fault.{Fault}
use Rattle.jsonc_engine.specs.Argument.{IsArgument, IsFaultOfArgument, of_json, of_path, of_text, IsFaultOfJson, IsFaultOfPath, IsFaultOfText, IsPath, IsValueOf}
use Rattle.jsonc_engine.specs.Change.{IsChangeFor, for_set, for_append, for_remove, for_sort, for_drop, IsTaskFor, for_check, for_print, for_json, for_work, IsWorkFor, for_change, for_get, for_find, for_patch, for_merge}
use Rattle.jsonc_engine.specs.Command.{find, patch, put, request_of, value_at}
use Rattle.jsonc_engine.specs.Finding.{IsPointer}
use Rattle.jsonc_engine.specs.Patched.{IsMergePatchOf, IsPatchOf}

-- what was read of a JSON text tells of its value
module _ {A : Type 0} (json : List ℕ) (o : Options) (found : Option (CstInputValue A)) (read : IsValueOfText o json (option_map plain found)) where
  pub argument_is : (v : CstInputValue A) → found ≡ Some v → IfSome found (λ w. IsWritable o (plain w)) → IsValueOf o json (plain v)
  argument_is v is writable = go read.value read.document (ap (option_map plain) (sym is) ∙ read.collapsed)
    where
      go : (w : Option Plain) → IsDocument o (chars json) w → option_map plain (Some v) ≡ option_map collapse w → IsValueOf o json (plain v)
      go None d e = cc
      go (Some x) d e =
          let same : plain v ≡ collapse x = cc in
          record {
            value = x;
            document = d;
            collapsed = same;
            writable = subst (λ (f : Option (CstInputValue A)). IfSome f (λ w. IsWritable o (plain w))) is writable;
          }

  pub no_argument : found ≡ None → IsDocument o (chars json) None
  no_argument is = go read.value read.document (ap (option_map plain) (sym is) ∙ read.collapsed)
    where
      go : (w : Option Plain) → IsDocument o (chars json) w → None ≡ option_map collapse w → IsDocument o (chars json) None
      go None d e = d
      go (Some x) d e = cc

-- what a command asks for
module _ {A : Type 0} (o : Options) (c : Command) where
  abbrev IsTask : Task A → Type 0
  IsTask task = IsTaskFor o (request_of c) task

  change_task : (change : Change A) → IsChangeFor (request_of c) change → IsTask (OnDocument (Make change))
  change_task change h = for_work (request_of c) (Make change) (for_change (request_of c) change h)

  pub check_task : c ≡ command.Check → IsTask Stay
  check_task is = subst (λ (x : Command). IsTaskFor {A = A} o (request_of x) Stay) (sym is) for_check

  pub print_task : c ≡ command.Print → IsTask Stay
  print_task is = subst (λ (x : Command). IsTaskFor {A = A} o (request_of x) Stay) (sym is) for_print

  pub set_task : (name json : Bor (List ℕ)) (value : CstInputValue A) → c ≡ command.Set name json → IsArgument json.now (plain value) → IsTask (OnDocument (Make (Set name value)))
  set_task name json value is h = change_task (Set name value) (subst (λ (x : Command). IsChangeFor (request_of x) (Set name value)) (sym is) (for_set name json.now value h))

  pub append_task : (json : Bor (List ℕ)) (value : CstInputValue A) → c ≡ command.Append json → IsArgument json.now (plain value) → IsTask (OnDocument (Make (Append value)))
  append_task json value is h = change_task (Append value) (subst (λ (x : Command). IsChangeFor (request_of x) (Append value)) (sym is) (for_append json.now value h))

  pub remove_task : (name : Bor (List ℕ)) → c ≡ command.Remove name → IsTask (OnDocument (Make (Remove name)))
  remove_task name is = change_task (Remove name) (subst (λ (x : Command). IsChangeFor {A = A} (request_of x) (Remove name)) (sym is) (for_remove name))

  pub sort_task : c ≡ command.Sort → IsTask (OnDocument (Make Sort))
  sort_task is = change_task Sort (subst (λ (x : Command). IsChangeFor {A = A} (request_of x) Sort) (sym is) for_sort)

  pub put_task : (path json : Bor (List ℕ)) (change : Change A) → c ≡ command.Put path json → IsChangeFor (put path.now json.now) change → IsTask (OnDocument (Make change))
  put_task path json change is h = change_task change (subst (λ (x : Command). IsChangeFor (request_of x) change) (sym is) h)

  pub drop_task : (path : Bor (List ℕ)) (names : Vec (String A) A) → c ≡ command.Drop path → IsPath path.now (names_of names.items) → IsTask (OnDocument (Make (Drop names)))
  drop_task path names is h = change_task (Drop names) (subst (λ (x : Command). IsChangeFor (request_of x) (Drop names)) (sym is) (for_drop path.now names h))

  -- and work that is no change
  pub look_task : (place : Place) (work : Work A) → c ≡ command.Get place → IsWorkFor o (value_at place) work → IsTask (OnDocument work)
  look_task place work is h = for_work (request_of c) work (subst (λ (x : Command). IsWorkFor o (request_of x) work) (sym is) h)

  pub patch_task : (text : Bor (List ℕ)) (most : ℕ) (read : Patch A) → c ≡ command.Patch text most → IsPatchOf o text.now (operations_in read) → IsTask (OnDocument (Apply read most))
  patch_task text most read is h =
      for_work (request_of c) (Apply read most) (subst (λ (x : Command). IsWorkFor o (request_of x) (Apply read most)) (sym is) (for_patch text.now most read h))

  pub merge_task : (text : Bor (List ℕ)) (value : CstInputValue A) → c ≡ command.Merge text → IsMergePatchOf o text.now (plain value) → IsTask (OnDocument (Merge value))
  merge_task text value is h = for_work (request_of c) (Merge value) (subst (λ (x : Command). IsWorkFor o (request_of x) (Merge value)) (sym is) (for_merge text.now value h))

  pub json_task : c ≡ command.Json → IsTask Json
  json_task is = subst (λ (x : Command). IsTaskFor {A = A} o (request_of x) Json) (sym is) for_json

-- and what its words are refused for
module _ {A : Type 0} (o : Options) (c : Command) (f : Fault A) where
  pub set_fault : (name json : Bor (List ℕ)) → c ≡ command.Set name json → IsFaultOfJson all_on json.now f → IsFaultOfArgument o (request_of c) f
  set_fault name json is h = subst (λ (x : Command). IsFaultOfArgument o (request_of x) f) (sym is) (of_json json.now (λ path e. cc) refl h)

  pub append_fault : (json : Bor (List ℕ)) → c ≡ command.Append json → IsFaultOfJson all_on json.now f → IsFaultOfArgument o (request_of c) f
  append_fault json is h = subst (λ (x : Command). IsFaultOfArgument o (request_of x) f) (sym is) (of_json json.now (λ path e. cc) refl h)

  pub drop_fault : (path : Bor (List ℕ)) → c ≡ command.Drop path → IsFaultOfPath path.now f → IsFaultOfArgument o (request_of c) f
  drop_fault path is h = subst (λ (x : Command). IsFaultOfArgument o (request_of x) f) (sym is) (of_path path.now refl h)

  pub patch_fault : (text : Bor (List ℕ)) (most : ℕ) → c ≡ command.Patch text most → IsFaultOfText o (patch text.now most) f → IsFaultOfArgument o (request_of c) f
  patch_fault text most is h = subst (λ (x : Command). IsFaultOfArgument o (request_of x) f) (sym is) (of_text h)

-- what a place asks for, and what its word is refused for
module _ {A : Type 0} (o : Options) (place : Place) where
  pub names_work : (path : Bor (List ℕ)) (names : Vec (String A) A) → place ≡ Names path → IsPath path.now (names_of names.items) → IsWorkFor o (value_at place) (Get names)
  names_work path names is h = subst (λ (p : Place). IsWorkFor o (value_at p) (Get names)) (sym is) (for_get path.now names h)

  pub pointer_work : (text : Bor (List ℕ)) (pointer : Pointer A) → place ≡ kinds.Pointer text → IsPointer text.now (tokens_of pointer) → IsWorkFor o (value_at place) (Find pointer)
  pointer_work text pointer is h = subst (λ (p : Place). IsWorkFor o (value_at p) (Find pointer)) (sym is) (for_find text.now pointer h)

  pub names_fault : (path : Bor (List ℕ)) (f : Fault A) → place ≡ Names path → IsFaultOfPath path.now f → IsFaultOfArgument o (value_at place) f
  names_fault path f is h = subst (λ (p : Place). IsFaultOfArgument o (value_at p) f) (sym is) (of_path path.now refl h)

  pub pointer_fault : (text : Bor (List ℕ)) (f : Fault A) → place ≡ kinds.Pointer text → IsFaultOfArgument o (find text.now) f → IsFaultOfArgument o (value_at place) f
  pointer_fault text f is h = subst (λ (p : Place). IsFaultOfArgument o (value_at p) f) (sym is) h

-- the path of a command that puts is read first
module _ {A : Type 0} (o : Options) (path json : List ℕ) where
  pub path_refused : (f : Fault A) → IsFaultOfPath path f → IsFaultOfArgument o (put path json) f
  path_refused f h = of_path path refl h

  pub json_refused : (names : List (List ℕ)) (f : Fault A) → IsPath path names → IsFaultOfJson all_on json f → IsFaultOfArgument o (put path json) f
  json_refused names f is h = of_json json (λ p e. (names, let same : path ≡ p = cc in subst (λ (b : List ℕ). IsPath b names) same is)) refl h
