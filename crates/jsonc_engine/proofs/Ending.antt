-- What a run has written, of the input that was read.
use Rattle.std.proofs.Common.{◌≡◌, ℕ, ◌==◌, if◌then◌else◌, List, [], ◌∷◌, Option, Result, Ok, Err, IfErr, IfSome, OnErr, OnOk, IsTrue, true, false, refl, sym, ap, subst, ◌∙◌}
use Rattle.std.specs.Io.KnownBytes.{Appends}
use Rattle.jsonc_text.specs.Options.{Options, all_on}
use Rattle.std.specs.Prelude.{IsErrOf}
use Rattle.jsonc_text.specs.declared.edit.EditError.TheVariants.{NestingDepthExceeded, OutOfMemory}
use Rattle.jsonc_engine.specs.declared.fault.Fault.{Fault}
use Rattle.jsonc_engine.specs.declared.fault.Fault.TheVariants.{Argument, Edit, Input, MergePatch, NoValue, NotNames, NotUtf8, Patch, Path, Pointer, Read, Usage, Write}
use Rattle.jsonc_engine.specs.Parser.{ParseError}
use Rattle.jsonc_engine.specs.Command.{Request}
use Rattle.jsonc_engine.specs.Fault.{EndsRun, EndsUnread, IsFaultOn, IsForMemory, TellsOfInput}
use Rattle.jsonc_engine.specs.Input.{IsInput, IsInputOf}
use Rattle.jsonc_engine.specs.Output.{IsAccepted, IsLeft, Puts}
use Rattle.jsonc_engine.proofs.Changes.{of_input}
use Rattle.jsonc_engine.proofs.FaultTexts.{tells_of_input}
use Rattle.jsonc_engine.proofs.Nesting.{accepted_again}

-- what holds of the input that was read holds of all that the source had
module _ (A : Type 0) (known : Option (List ℕ)) (read input : List ℕ) (o : Options) (all : o ≡ all_on) (value : input ≡ read) (bytes : IfSome known (λ i. read ≡ i)) where
  pub input_known : IsInputOf o input → IfSome known IsInput
  input_known h = of_input known read IsInput bytes (subst (λ (b : List ℕ). IsInput b) value (subst (λ (p : Options). IsInputOf p input) all h))

  pub puts_known : (r : Request) (a b : Option (List ℕ)) (text : List ℕ) → IsLeft A o r input text → IsInputOf o input → Appends a b text → IfSome known (Puts A r a b)
  puts_known r a b text left accepted appends =
      let there : IsLeft A all_on r read text = subst (λ (i : List ℕ). IsLeft A all_on r i text) value (subst (λ (p : Options). IsLeft A p r input text) all left) in
      let again : IsInput read = subst (λ (i : List ℕ). IsInput i) value (subst (λ (p : Options). IsInputOf p input) all accepted) in
      of_input known read (Puts A r a b) bytes (text, there, accepted_again A r read text again there, appends)

  pub tells_known : (r : Request) (fault : Fault A) → IsFaultOn o r input fault → IfSome known (λ i. TellsOfInput r i fault)
  tells_known r fault h =
      let there : IsFaultOn all_on r read fault = subst (λ (i : List ℕ). IsFaultOn all_on r i fault) value (subst (λ (p : Options). IsFaultOn p r input fault) all h) in
      of_input known read (λ i. TellsOfInput r i fault) bytes (tells_of_input r read fault there)

  pub memory_known : (r : Request) (fault : Fault A) → fault ≡ Edit OutOfMemory → IsFaultOn o r input fault → IfSome known (IsForMemory all_on r)
  memory_known r fault is h =
      let wanted : IsForMemory o r input = subst (IsFaultOn o r input) is h in
      let there : IsForMemory all_on r read = subst (λ (i : List ℕ). IsForMemory all_on r i) value (subst (λ (p : Options). IsForMemory p r input) all wanted) in
      of_input known read (IsForMemory all_on r) bytes there

-- what is told of a write is no allocation failure
pub no_memory : {A T P : Type 0} (r : Result T (Fault A)) → OnErr r (IsErrOf r Write) → IsErrOf r (Edit OutOfMemory) → P
no_memory (Ok x) h e = cc
no_memory (Err fault) h e = cc

-- a run can end with it
pub ends_writing : {A T : Type 0} (r : Result T (Fault A)) → OnErr r (IsErrOf r Write) → IfErr r EndsRun
ends_writing (Ok x) h = tt
ends_writing (Err fault) h = let is : fault ≡ Write = cc in subst EndsRun (sym is) tt

-- what holds anyway
pub err_always : {A T : Type 0} {P : Fault A → Type 0} (r : Result T (Fault A)) → ((fault : Fault A) → P fault) → IfErr r P
err_always (Ok x) h = tt
err_always (Err fault) h = h fault

pub ok_always : {A T P : Type 0} (r : Result T (Fault A)) → P → OnOk r P
ok_always (Ok x) h = h
ok_always (Err e) h = tt

-- what is told of the input
module _ {A : Type 0} (o : Options) (request : Request) (input : List ℕ) where
  -- is told behind the words
  pub input_unread : (fault : Fault A) → IsFaultOn o request input fault → EndsUnread fault → ⊥
  input_unread (Path e) h unread = h
  input_unread NotNames h unread = h
  input_unread (Argument e) h unread = h
  input_unread NoValue h unread = h
  input_unread (Pointer e) h unread = h
  input_unread (Patch e) h unread = h
  input_unread (MergePatch e) h unread = h
  input_unread _ h unread = unread

  -- and can end a run
  pub input_ends : (fault : Fault A) → IsFaultOn o request input fault → EndsRun fault
  input_ends (Edit OutOfMemory) h = tt
  input_ends (Edit NestingDepthExceeded) h = tt
  input_ends (Edit _) h = absurd h
  input_ends Usage h = absurd h
  input_ends _ h = tt

  -- no call has failed
  pub input_no_read : (fault : Fault A) → IsFaultOn o request input fault → fault ≡ Read → ⊥
  input_no_read fault h is = subst (IsFaultOn o request input) is h

  pub input_no_write : (fault : Fault A) → IsFaultOn o request input fault → fault ≡ Write → ⊥
  input_no_write fault h is = subst (IsFaultOn o request input) is h
