-- What an edit of a file says of the name, by what came of it.
use Rattle.std.specs.Prelude.{◌≡◌, ◌⊎◌, ℕ, false, List, [], ◌∷◌}
use Rattle.jsonc_files.specs.Calls.{Event, opened, found, created, compared, failed}
use Rattle.jsonc_files.specs.System.{state, text_now}
use Rattle.jsonc_files.specs.Moments.{Has}
use Rattle.jsonc_files.specs.declared.record.Step.TheVariants as step
use Rattle.jsonc_files.specs.declared.fault.FileError.{FileError}
use Rattle.jsonc_files.specs.declared.fault.FileError.TheVariants as error
use Rattle.jsonc_files.specs.declared.fault.Fault.{Fault}
use Rattle.jsonc_files.specs.declared.fault.Fault.TheVariants as fault

-- The name has a text that the change makes of the one from before, and a crash leaves nothing else.
pub record HasMade (makes : List ℕ → List ℕ → Type 0) (before : List ℕ) (calls : List Event) : Type 0 where
  pub text : List ℕ
  pub made : makes before text
  pub has : Has before calls text

-- After a fault the name has the text from before, but where only the folder could not be synchronized the new one.
abbrev pub AfterFault : {E : Type 0} → (List ℕ → List ℕ → Type 0) → List ℕ → List Event → Fault E → Type 0
AfterFault makes before calls (fault.NotDurable _) = makes before (text_now before (state calls))
AfterFault makes before calls _ = Has before calls before

-- the call is one of these
abbrev pub IsMade : Event → List Event → Type 0
IsMade event [] = ⊥
IsMade event (call ∷ earlier) = (call ≡ event) ⊎ IsMade event earlier

-- no call made a new file
abbrev pub MadeNoFile : List Event → Type 0
MadeNoFile [] = Unit {0}
MadeNoFile (created _ ∷ _) = ⊥
MadeNoFile (_ ∷ earlier) = MadeNoFile earlier

-- There is no new file but under the name, or removing it failed.
abbrev pub NoneBeside : List Event → Type 0
NoneBeside calls = ((state calls).others ≡ 0) ⊎ IsMade (failed step.Remove) calls

-- why a file was given up
abbrev pub HasCause : List Event → FileError → Type 0
HasCause calls error.NotAFile = IsMade (opened false) calls
HasCause calls error.Replaced = IsMade (found false) calls
HasCause calls error.Changed = IsMade (compared false) calls
HasCause calls (error.Failed step _) = IsMade (failed step) calls

-- why an edit was given up
abbrev pub CausesFault : {E : Type 0} → (List ℕ → E → Type 0) → List ℕ → List Event → Fault E → Type 0
CausesFault refuses before calls (fault.Refused error) = refuses before error
CausesFault refuses before calls (fault.File error) = HasCause calls error
CausesFault refuses before calls (fault.NotDurable _) = IsMade (failed step.SyncFolder) calls
