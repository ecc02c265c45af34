-- What the parts of a merge make of a document, and why they stop.
use Rattle.std.specs.Prelude.{◌≡◌, ◌≢◌, ◌⊎◌, ◌++◌, ◌∷◌, [], ℕ, List, Option}
use Rattle.jsonc_text.specs.Documents.{Document}
use Rattle.jsonc_text.specs.Options.{Options}
use Rattle.jsonc_text.specs.Plain.{Plain, null, object, Members}
use Rattle.jsonc_text.specs.declared.edit.EditError.TheVariants.{NestingDepthExceeded}
use Rattle.jsonc_edit.specs.Writing.{IsOfNumbers, AreNamedOfNumbers}
use Rattle.jsonc_layout.specs.input.Views.{chars_of}
use Rattle.jsonc_sound.specs.Documents.{Shows}
use Rattle.jsonc_cst.specs.declared.cst.CstRootNode.{CstRootNode}
use Rattle.jsonc_cst.specs.Document.{tree_of}
use Rattle.jsonc_run.specs.promise.Within.{StaysWithin}
use Rattle.jsonc_parser.specs.patch.Applied.{IsMade, IsNoRoom}
use Rattle.jsonc_parser.specs.patch.Failing.{ReferToNothing}
use Rattle.jsonc_parser.specs.patch.Merged.{MergesIn}
use Rattle.jsonc_parser.specs.patch.Merging.{GoesInto, Stops}
use Rattle.jsonc_parser.specs.patch.Operations.{remove}
use Rattle.jsonc_parser.specs.patch.PatchFaults.{RepeatsName}
use Rattle.jsonc_parser.specs.patch.References.{FailsAt, IsRepeated, RefersTo}
use Rattle.jsonc_parser.specs.declared.patch.making.PatchCause.{PatchCause}
use Rattle.jsonc_parser.specs.declared.patch.making.PatchCause.TheVariants as causes
use Rattle.jsonc_parser.specs.declared.patch.merging.MergeFault.{MergeFault}
use Rattle.jsonc_parser.specs.declared.patch.merging.MergeFault.TheVariants as merge

-- the tokens refer to an object
abbrev pub RefersToObject : Option Plain → List (List ℕ) → Type 0
RefersToObject w tokens = (ns : Members) × RefersTo w tokens (object ns)

-- a value may be put where the tokens lead: they are none, or all but the last refer to an object
pub data IsPlace (w : Option Plain) : List (List ℕ) → Type 0 where
  at_root : IsPlace w []
  in_object : {tokens : List (List ℕ)} (name : List ℕ) → RefersToObject w tokens → IsPlace w (tokens ++ name ∷ [])

-- what the tokens refer to is removed, if they refer to something
abbrev pub Drops : List (List ℕ) → Document → Document → Type 0
Drops tokens d e = IsMade (remove tokens) d e ⊎ (ReferToNothing d.value tokens × (e ≡ d))

-- where the patch does not go into the value, it is merged
abbrev pub Sets : List (List ℕ) → Plain → Document → Document → Type 0
Sets tokens p d e = ¬ (GoesInto p tokens d.value) → MergesIn tokens p d e

-- null drops the value, and any other patch is merged
abbrev pub MergesNamed : List (List ℕ) → Plain → Document → Document → Type 0
MergesNamed tokens p d e = (p ≡ null → Drops tokens d e) × (p ≢ null → MergesIn tokens p d e)

-- so the one document leads to the other, of the same options; and a document within the depth stays so
pub record IsReached (d : Document) (Leads : Document → Document → Type 0) (e : Document) : Type 0 where
  pub options : e.options ≡ d.options
  pub leads : Leads d e
  pub within : StaysWithin d e

module _ {A : Type 0} where
  -- so it is of whatever document the old one shows, if the numbers that are written fit
  abbrev pub ReachesWhatShown : CstRootNode A → (Options → Type 0) → (Document → Document → Type 0) → CstRootNode A → Type 0
  ReachesWhatShown old Fit Leads new = (d : Document) → Shows d (tree_of old) → Fit d.options → (e : Document) × Shows e (tree_of new) × IsReached d Leads e

  -- a name occurs twice where the tokens are looked up, or there was no memory, or a value would be nested too deep
  abbrev pub IsTwice : Option Plain → List (List ℕ) → PatchCause A → Type 0
  IsTwice w tokens (causes.RepeatedName name) = FailsAt w tokens (chars_of name)
  IsTwice w tokens (causes.Edit why) = IsNoRoom why
  IsTwice w tokens cause = ⊥

  -- so it is, or merging stops inside
  abbrev pub IsMergeCause : List (List ℕ) → Plain → Option Plain → PatchCause A → Type 0
  IsMergeCause tokens p w (causes.RepeatedName name) = FailsAt w tokens (chars_of name) ⊎ Stops (chars_of name) tokens p w
  IsMergeCause tokens p w (causes.Edit why) = IsNoRoom why
  IsMergeCause tokens p w cause = ⊥

  -- merging stops inside, or there was no memory, or a value would be nested too deep
  abbrev pub IsStop : List (List ℕ) → Plain → Option Plain → PatchCause A → Type 0
  IsStop tokens p w (causes.RepeatedName name) = Stops (chars_of name) tokens p w
  IsStop tokens p w (causes.Edit why) = IsNoRoom why
  IsStop tokens p w cause = ⊥

  -- so it is of whatever document it shows, where a value may be put at the tokens
  abbrev pub FailsToSet : CstRootNode A → List (List ℕ) → PatchCause A → Type 0
  FailsToSet doc tokens cause = (d : Document) → Shows d (tree_of doc) → IsPlace d.value tokens → IsTwice d.value tokens cause

  abbrev pub FailsToMerge : CstRootNode A → List (List ℕ) → Plain → PatchCause A → Type 0
  FailsToMerge doc tokens p cause = (d : Document) → Shows d (tree_of doc) → IsOfNumbers d.options p → IsPlace d.value tokens → IsMergeCause tokens p d.value cause

  -- and where the tokens refer to an object
  abbrev pub FailsToMergeAll : CstRootNode A → List (List ℕ) → Members → PatchCause A → Type 0
  FailsToMergeAll doc tokens ms cause = (d : Document) → Shows d (tree_of doc) → AreNamedOfNumbers d.options ms → RefersToObject d.value tokens → IsStop tokens (object ms) d.value cause

  -- the fault by which a cause is reported
  abbrev pub IsReportedAs : PatchCause A → MergeFault A → Type 0
  IsReportedAs (causes.RepeatedName name) fault = fault ≡ merge.RepeatedName name
  IsReportedAs (causes.Edit NestingDepthExceeded) fault = fault ≡ merge.NestingDepthExceeded
  IsReportedAs cause fault = fault ≡ merge.OutOfMemory

  -- the fault has this name, or reports that there was no memory for it
  abbrev pub ReportsName : List ℕ → MergeFault A → Type 0
  ReportsName name (merge.RepeatedName s) = chars_of s ≡ name
  ReportsName name merge.OutOfMemory = Unit {0}
  ReportsName name merge.NestingDepthExceeded = ⊥

  -- more than one member has the name of the fault; or more than one member of an object in the value
  abbrev pub AreNamesTwice : Members → MergeFault A → Type 0
  AreNamesTwice ms (merge.RepeatedName name) = IsRepeated (chars_of name) ms
  AreNamesTwice ms merge.OutOfMemory = Unit {0}
  AreNamesTwice ms merge.NestingDepthExceeded = ⊥

  abbrev pub HasNameTwice : Plain → MergeFault A → Type 0
  HasNameTwice p (merge.RepeatedName name) = RepeatsName (chars_of name) p
  HasNameTwice p merge.OutOfMemory = Unit {0}
  HasNameTwice p merge.NestingDepthExceeded = ⊥
