-- What a fault tells of a command's path and JSON text, and of the input.
use Rattle.std.proofs.Common.{◌≡◌, ◌≢◌, ℕ, List, Result, Ok, Err, IfErr, OnErr, inl, inr, sym, subst}
use Rattle.std.specs.Prelude.{IsErrOf}
use Rattle.jsonc_text.specs.Faults.{kind_of}
use Rattle.jsonc_text.specs.Options.{Options, all_on}
use Rattle.jsonc_text.specs.declared.errors.ParseErrorKind.TheVariants as ErrorKind
use Rattle.jsonc_layout.specs.input.Views.{plain}
use Rattle.jsonc_text.specs.declared.edit.EditError.TheVariants.{NestingDepthExceeded, OutOfMemory}
use Rattle.jsonc_parser.specs.paths.Found.{names_of}
use Rattle.jsonc_engine.specs.declared.task.Change.{Change}
use Rattle.jsonc_engine.specs.declared.fault.Fault.{Fault}
use Rattle.jsonc_engine.specs.declared.fault.Fault.TheVariants.{Argument, Edit, Input, MergePatch, NoRoot, NoSetting, NoSuchValue, NoValue, NonFinite, NotArray, NotNames, NotObject, NotUtf8, OnTheWay, Operation, Patch, Path, Pointer, Read, RepeatedName, TooLarge, Usage, Write}
use Rattle.jsonc_engine.specs.Argument.{IsArgument, IsFaultOfArgument, of_json, of_path, of_text, IsFaultOfJson, IsFaultOfPath, IsFaultOfText, IsPath, IsReady}
use Rattle.jsonc_engine.specs.Change.{IsChangeFor, for_set, for_append, for_remove, for_sort, for_put, for_drop, IsTaskFor, for_check, for_print, for_json, for_work, IsWorkFor, for_change, for_get, for_find, for_patch, for_merge}
use Rattle.jsonc_engine.specs.declared.task.Task.{Task}
use Rattle.jsonc_engine.specs.declared.task.Work.{Work}
use Rattle.jsonc_engine.specs.Command.{Request, append, as_json, check, drop, find, get, merge, patch, print, put, remove, set, sort}
use Rattle.jsonc_engine.specs.Fault.{EndsBehindInput, EndsRun, IsCause, IsFaultOn, IsToldFreely, TellsOfArgument, TellsOfInput}
use Rattle.jsonc_engine.specs.Parser.{ParseError}
use Rattle.jsonc_engine.specs.Output.{IsLeft}

-- where a command's task is known its path and JSON text are as they have to be
of_change : {A : Type 0} (request : Request) (change : Change A) → IsChangeFor request change → IsReady request
of_change _ _ (for_set name j value argument) =
    (λ path e. cc, λ json e. (plain value, let same : j ≡ json = cc in subst (λ (b : List ℕ). IsArgument b (plain value)) same argument))
of_change _ _ (for_append j value argument) =
    (λ path e. cc, λ json e. (plain value, let same : j ≡ json = cc in subst (λ (b : List ℕ). IsArgument b (plain value)) same argument))
of_change _ _ (for_remove name) = (λ path e. cc, λ json e. cc)
of_change _ _ for_sort = (λ path e. cc, λ json e. cc)
of_change _ _ (for_put p j names value is argument) = (
  λ path e. (names_of names.items, let same : p ≡ path = cc in subst (λ (b : List ℕ). IsPath b (names_of names.items)) same is),
  λ json e. (plain value, let same : j ≡ json = cc in subst (λ (b : List ℕ). IsArgument b (plain value)) same argument),
)
of_change _ _ (for_drop p names is) =
    (λ path e. (names_of names.items, let same : p ≡ path = cc in subst (λ (b : List ℕ). IsPath b (names_of names.items)) same is), λ json e. cc)

of_work : {A : Type 0} (o : Options) (request : Request) (work : Work A) → IsWorkFor o request work → IsReady request
of_work o _ _ (for_change request change is) = of_change request change is
of_work o _ _ (for_get p names is) =
    (λ path e. (names_of names.items, let same : p ≡ path = cc in subst (λ (b : List ℕ). IsPath b (names_of names.items)) same is), λ json e. cc)
of_work o _ _ (for_find text pointer is) = (λ path e. cc, λ json e. cc)
of_work o _ _ (for_patch text most read is) = (λ path e. cc, λ json e. cc)
of_work o _ _ (for_merge text value is) = (λ path e. cc, λ json e. cc)

pub is_ready : {A : Type 0} (o : Options) (request : Request) (task : Task A) → IsTaskFor o request task → IsReady request
is_ready o _ _ for_check = (λ path e. cc, λ json e. cc)
is_ready o _ _ for_print = (λ path e. cc, λ json e. cc)
is_ready o _ _ for_json = (λ path e. cc, λ json e. cc)
is_ready o _ _ (for_work request work is) = of_work o request work is

-- no document is made of an input that `json` reads
pub told_of_parse : {A : Type 0} (o : Options) (request : Request) (work : Work A) → IsWorkFor o request work → (error : ParseError) → IsToldFreely request error
told_of_parse o _ _ (for_change _ _ (for_set name j value argument)) error = tt
told_of_parse o _ _ (for_change _ _ (for_append j value argument)) error = tt
told_of_parse o _ _ (for_change _ _ (for_remove name)) error = tt
told_of_parse o _ _ (for_change _ _ for_sort) error = tt
told_of_parse o _ _ (for_change _ _ (for_put p j names value is argument)) error = tt
told_of_parse o _ _ (for_change _ _ (for_drop p names is)) error = tt
told_of_parse o _ _ (for_get p names is) error = tt
told_of_parse o _ _ (for_find text pointer is) error = tt
told_of_parse o _ _ (for_patch text most read is) error = tt
told_of_parse o _ _ (for_merge text value is) error = tt

-- a check wants no memory, whatever is asked for
pub told_of_check : (request : Request) (error : ParseError) → kind_of error ≢ ErrorKind.OutOfMemory → IsToldFreely request error
told_of_check as_json error h = h
told_of_check check error h = tt
told_of_check print error h = tt
told_of_check (set name j) error h = tt
told_of_check (append j) error h = tt
told_of_check (remove name) error h = tt
told_of_check sort error h = tt
told_of_check (get path) error h = tt
told_of_check (find pointer) error h = tt
told_of_check (put path j) error h = tt
told_of_check (drop path) error h = tt
told_of_check (patch text most) error h = tt
told_of_check (merge text) error h = tt

the_fault : {A : Type 0} (T : Type 0) (f g : Fault A) → IsErrOf {T = T} (Err f) g → f ≡ g
the_fault T f g e = cc

module _ {A : Type 0} (request : Request) (ready : IsReady request) where
  -- so it is where the input is refused
  pub told_of_input : (o : Options) (input : List ℕ) (fault : Fault A) → IsFaultOn o request input fault → TellsOfArgument request fault
  told_of_input o input (Path e) h = absurd h
  told_of_input o input NotNames h = absurd h
  told_of_input o input (Argument e) h = absurd h
  told_of_input o input NoValue h = absurd h
  told_of_input o input (Pointer e) h = absurd h
  told_of_input o input (Patch e) h = absurd h
  told_of_input o input (MergePatch e) h = absurd h
  told_of_input o input (Edit e) h = inr ready
  told_of_input o input _ h = ready

  -- or a read or a write has failed
  by_read : (fault : Fault A) → (¬ (fault ≡ Read) → fault ≡ Edit OutOfMemory) → TellsOfArgument request fault
  by_read (Path e) h = let wrong : Path e ≡ Edit OutOfMemory = h (λ x. cc) in cc
  by_read NotNames h = let wrong : NotNames ≡ Edit OutOfMemory = h (λ x. cc) in cc
  by_read (Argument e) h = let wrong : Argument e ≡ Edit OutOfMemory = h (λ x. cc) in cc
  by_read NoValue h = let wrong : NoValue ≡ Edit OutOfMemory = h (λ x. cc) in cc
  by_read (Pointer e) h = let wrong : Pointer e ≡ Edit OutOfMemory = h (λ x. cc) in cc
  by_read (Patch e) h = let wrong : Patch e ≡ Edit OutOfMemory = h (λ x. cc) in cc
  by_read (MergePatch e) h = let wrong : MergePatch e ≡ Edit OutOfMemory = h (λ x. cc) in cc
  by_read (Edit e) h = inr ready
  by_read _ h = ready

  pub told_of_read : {T : Type 0} (fault : Fault A) → (¬ (IsErrOf {T = T} (Err fault) Read) → IsErrOf {T = T} (Err fault) (Edit OutOfMemory)) → TellsOfArgument request fault
  told_of_read {T} fault h = by_read fault (λ other. the_fault T fault (Edit OutOfMemory) (h (λ e. other (the_fault T fault Read e))))

  pub told_of_write : {T : Type 0} (r : Result T (Fault A)) → OnErr r (IsErrOf r Write) → IfErr r (TellsOfArgument request)
  told_of_write (Ok x) h = tt
  told_of_write {T} (Err fault) h = subst (TellsOfArgument request) (sym (the_fault T fault Write h)) ready

-- a fault that only words have, or that memory was wanting for what they say
abbrev pub IsOfWords : {A : Type 0} → Fault A → Type 0
IsOfWords (Path e) = Unit {0}
IsOfWords NotNames = Unit {0}
IsOfWords (Argument e) = Unit {0}
IsOfWords NoValue = Unit {0}
IsOfWords (Pointer e) = Unit {0}
IsOfWords (Patch e) = Unit {0}
IsOfWords (MergePatch e) = Unit {0}
IsOfWords (Edit OutOfMemory) = Unit {0}
IsOfWords other = ⊥

module _ {A : Type 0} where
  path_words : (path : List ℕ) (fault : Fault A) → IsFaultOfPath path fault → IsOfWords fault
  path_words path (Path e) h = tt
  path_words path NotNames h = tt
  path_words path (Edit OutOfMemory) h = tt
  path_words path _ h = absurd h

  json_words : (json : List ℕ) (fault : Fault A) → IsFaultOfJson all_on json fault → IsOfWords fault
  json_words json (Argument e) h = tt
  json_words json NoValue h = tt
  json_words json _ h = absurd h

  text_words : (o : Options) (request : Request) (fault : Fault A) → IsFaultOfText o request fault → IsOfWords fault
  text_words o (find text) (Pointer e) h = tt
  text_words o (find text) (Edit OutOfMemory) h = tt
  text_words o (find text) _ h = absurd h
  text_words o (patch text most) (Patch e) h = tt
  text_words o (patch text most) (Edit OutOfMemory) h = tt
  text_words o (patch text most) _ h = absurd h
  text_words o (merge text) (MergePatch e) h = tt
  text_words o (merge text) (Edit OutOfMemory) h = tt
  text_words o (merge text) _ h = absurd h
  text_words o check fault h = absurd h
  text_words o print fault h = absurd h
  text_words o (set name j) fault h = absurd h
  text_words o (append j) fault h = absurd h
  text_words o (remove name) fault h = absurd h
  text_words o sort fault h = absurd h
  text_words o (get path) fault h = absurd h
  text_words o (put path j) fault h = absurd h
  text_words o (drop path) fault h = absurd h
  text_words o as_json fault h = absurd h

  pub of_words : (o : Options) (request : Request) (fault : Fault A) → IsFaultOfArgument o request fault → IsOfWords fault
  of_words o request fault (of_path path e h) = path_words path fault h
  of_words o request fault (of_json j names e h) = json_words j fault h
  of_words o request fault (of_text h) = text_words o request fault h

  -- where the words are refused, what is told of them is true
  pub told_of_words : (request : Request) (fault : Fault A) → IsFaultOfArgument all_on request fault → TellsOfArgument request fault
  told_of_words request (Path e) h = h
  told_of_words request NotNames h = h
  told_of_words request (Argument e) h = h
  told_of_words request NoValue h = h
  told_of_words request (Pointer e) h = h
  told_of_words request (Patch e) h = h
  told_of_words request (MergePatch e) h = h
  told_of_words request (Edit e) h = inl h
  told_of_words request _ h = absurd (of_words all_on request _ h)

  -- a run can end with it, before the source is read
  pub words_end : (fault : Fault A) → IsOfWords fault → EndsRun fault
  words_end (Edit OutOfMemory) h = tt
  words_end (Edit _) h = absurd h
  words_end Usage h = absurd h
  words_end _ h = tt

  pub never_behind_words : (fault : Fault A) → IsOfWords fault → EndsBehindInput fault → ⊥
  never_behind_words (Path e) h behind = behind
  never_behind_words NotNames h behind = behind
  never_behind_words (Argument e) h behind = behind
  never_behind_words NoValue h behind = behind
  never_behind_words (Pointer e) h behind = behind
  never_behind_words (Patch e) h behind = behind
  never_behind_words (MergePatch e) h behind = behind
  never_behind_words (Edit OutOfMemory) h behind = behind
  never_behind_words _ h behind = h

  -- what is told of the input is true
  pub tells_of_input : (request : Request) (input : List ℕ) (fault : Fault A) → IsFaultOn all_on request input fault → TellsOfInput request input fault
  tells_of_input request input (Path e) h = tt
  tells_of_input request input NotNames h = tt
  tells_of_input request input (Argument e) h = tt
  tells_of_input request input NoValue h = tt
  tells_of_input request input (Pointer e) h = tt
  tells_of_input request input (Patch e) h = tt
  tells_of_input request input (MergePatch e) h = tt
  tells_of_input request input Read h = tt
  tells_of_input request input Write h = tt
  tells_of_input request input (Edit OutOfMemory) h = tt
  tells_of_input request input _ h = h

-- and allocation failure while it is read, and a failed read, before its end
never_behind_by : {A : Type 0} (fault : Fault A) → (¬ (fault ≡ Read) → fault ≡ Edit OutOfMemory) → EndsBehindInput fault → ⊥
never_behind_by (Edit NestingDepthExceeded) h behind = let wrong : Edit NestingDepthExceeded ≡ Edit OutOfMemory = h (λ x. cc) in cc
never_behind_by (Edit e) h behind = behind
never_behind_by Read h behind = behind
never_behind_by (Input e) h behind = let wrong : Input e ≡ Edit OutOfMemory = h (λ x. cc) in cc
never_behind_by NotObject h behind = let wrong : NotObject ≡ Edit OutOfMemory = h (λ x. cc) in cc
never_behind_by NotArray h behind = let wrong : NotArray ≡ Edit OutOfMemory = h (λ x. cc) in cc
never_behind_by NoSetting h behind = let wrong : NoSetting ≡ Edit OutOfMemory = h (λ x. cc) in cc
never_behind_by OnTheWay h behind = let wrong : OnTheWay ≡ Edit OutOfMemory = h (λ x. cc) in cc
never_behind_by NoSuchValue h behind = let wrong : NoSuchValue ≡ Edit OutOfMemory = h (λ x. cc) in cc
never_behind_by (RepeatedName name) h behind = let wrong : RepeatedName name ≡ Edit OutOfMemory = h (λ x. cc) in cc
never_behind_by (Operation f) h behind = let wrong : Operation f ≡ Edit OutOfMemory = h (λ x. cc) in cc
never_behind_by (TooLarge i n) h behind = let wrong : TooLarge i n ≡ Edit OutOfMemory = h (λ x. cc) in cc
never_behind_by NoRoot h behind = let wrong : NoRoot ≡ Edit OutOfMemory = h (λ x. cc) in cc
never_behind_by (NonFinite at) h behind = let wrong : NonFinite at ≡ Edit OutOfMemory = h (λ x. cc) in cc
never_behind_by NotUtf8 h behind = let wrong : NotUtf8 ≡ Edit OutOfMemory = h (λ x. cc) in cc
never_behind_by Write h behind = let wrong : Write ≡ Edit OutOfMemory = h (λ x. cc) in cc
never_behind_by _ h behind = behind

pub never_behind : {A T : Type 0} (fault : Fault A) → (¬ (IsErrOf {T = T} (Err fault) Read) → IsErrOf {T = T} (Err fault) (Edit OutOfMemory)) → EndsBehindInput fault → ⊥
never_behind {A} {T} fault h behind = never_behind_by fault (λ other. the_fault T fault (Edit OutOfMemory) (h (λ e. other (the_fault T fault Read e)))) behind

-- allocation failure for the text that a command writes
pub memory_told : {A T : Type 0} (o : Options) (request : Request) (input text : List ℕ) → IsReady request → IsLeft A o request input text → (r : Result T (Fault A))
    → IfErr r (λ fault. fault ≡ Edit OutOfMemory) → IfErr r (IsCause o request input)
memory_told o request input text ready left (Ok x) h = tt
memory_told o request input text ready left (Err fault) h = inr (ready, inr (h, text, left))
