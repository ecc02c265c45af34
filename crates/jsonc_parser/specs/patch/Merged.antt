-- What merging makes of a document, and why it is not made.
use Rattle.std.specs.Prelude.{◌≡◌, ◌⊎◌, [], ℕ, List, Some}
use Rattle.jsonc_text.specs.Documents.{Document}
use Rattle.jsonc_text.specs.Plain.{Members, Plain}
use Rattle.jsonc_edit.specs.Writing.{IsOfNumbers}
use Rattle.jsonc_layout.specs.input.Views.{chars_of}
use Rattle.jsonc_sound.specs.Documents.{Shows}
use Rattle.jsonc_run.specs.promise.Within.{StaysWithin}
use Rattle.jsonc_cst.specs.declared.cst.CstRootNode.{CstRootNode}
use Rattle.jsonc_cst.specs.Document.{tree_of}
use Rattle.jsonc_parser.specs.patch.Applied.{IsMade}
use Rattle.jsonc_parser.specs.patch.Found.{IsOfShown}
use Rattle.jsonc_parser.specs.patch.Merging.{MembersMergeBy, Merges, MergesBy, Stops}
use Rattle.jsonc_parser.specs.patch.PatchFaults.{RepeatsName}
use Rattle.jsonc_parser.specs.declared.patch.merging.MergeFault.{MergeFault}
use Rattle.jsonc_parser.specs.declared.patch.merging.MergeFault.TheVariants.{RepeatedName, NestingDepthExceeded, OutOfMemory}

-- merging, of documents: what is removed and what is added is so by the edits of a patch that does this alone
abbrev pub MergesIn : List (List ℕ) → Plain → Document → Document → Type 0
MergesIn tokens p d e = MergesBy (λ (x : Document). x.value) IsMade tokens p d e

abbrev pub MembersMergeIn : List (List ℕ) → Members → Document → Document → Type 0
MembersMergeIn tokens ms d e = MembersMergeBy (λ (x : Document). x.value) IsMade tokens ms d e

-- Merging leads from the one document to the other, of the same options, and so between their values, at the whole. A document within the depth stays so.
pub record IsMerged (d : Document) (p : Plain) (e : Document) : Type 0 where
  pub steps : MergesIn [] p d e
  pub options : e.options ≡ d.options
  pub merged : Merges [] p d.value e.value
  pub within : StaysWithin d e

module _ {A : Type 0} where
  -- so it is of whatever document the old one shows, if the numbers of the patch fit
  abbrev pub MergesWhatShown : CstRootNode A → Plain → CstRootNode A → Type 0
  MergesWhatShown old p new = (d : Document) → Shows d (tree_of old) → IsOfNumbers d.options p → (e : Document) × Shows e (tree_of new) × IsMerged d p e

  -- a name occurs twice in an object of the patch, or where it is looked up in the document
  abbrev pub IsMergeFault : Plain → Document → MergeFault A → Type 0
  IsMergeFault p d (RepeatedName name) = RepeatsName (chars_of name) p ⊎ Stops (chars_of name) [] p d.value
  IsMergeFault p d OutOfMemory = Unit {0}
  IsMergeFault p d NestingDepthExceeded = Unit {0}

  -- so it is of whatever document the old one shows, if the numbers of the patch fit
  abbrev pub MergeStopsWhatShown : CstRootNode A → Plain → MergeFault A → Type 0
  MergeStopsWhatShown old p fault = (d : Document) → Shows d (tree_of old) → IsOfNumbers d.options p → IsMergeFault p d fault
