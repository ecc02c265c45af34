-- The one edit that is chosen for names, by how far they lead.
use Rattle.std.specs.Prelude.{◌≡◌, ◌+◌, ◌∷◌, true, ℕ, List, Option, Some, None, drop}
use Rattle.jsonc_text.specs.Documents.{Document}
use Rattle.jsonc_text.specs.Plain.{Plain}
use Rattle.jsonc_sound.specs.Documents.{Shows}
use Rattle.jsonc_text.specs.declared.edit.Over.{Over}
use Rattle.jsonc_run.specs.declared.edit.Edit.{Edit}
use Rattle.jsonc_run.specs.Edits.{append_property, is_whole, operation_of, unsorted}
use Rattle.jsonc_cst.specs.declared.cst.CstRootNode.{CstRootNode}
use Rattle.jsonc_cst.specs.Document.{tree_of}
use Rattle.jsonc_parser.specs.paths.Laws.{MustStay}
use Rattle.jsonc_parser.specs.paths.Positions.{IsPutBy}
use Rattle.jsonc_parser.specs.paths.Settings.{nest}
use Rattle.jsonc_parser.specs.paths.Which.{seen_if}
use Rattle.jsonc_parser.specs.declared.paths.which.Which.{Which}

module _ {A : Type 0} where
  -- the edit puts v at the names in whatever document the tree shows; or none does, since a value of another kind is in the way and is to stay
  abbrev pub Chooses : Which → CstRootNode A → Plain → Over → List (List ℕ) → Option (Edit A) → Type 0
  Chooses which doc v over names None = (d : Document) → Shows d (tree_of doc) → MustStay over (seen_if which d.value) names
  Chooses which doc v over names (Some edit) = (is_whole edit ≡ true) × ((d : Document) → Shows d (tree_of doc) → IsPutBy which v over d.value names (operation_of unsorted edit))

  -- the edit appends a property of the name of this number to the object at the path, with the rest nested
  abbrev pub IsAppending : List ℕ → List (List ℕ) → ℕ → Plain → Option (Edit A) → Type 0
  IsAppending path names count v None = ⊥
  IsAppending path names count v (Some edit) = (is_whole edit ≡ true) × ((name : List ℕ) → drop count names ≡ name ∷ drop (count + 1) names
      → operation_of unsorted edit ≡ append_property path name (nest (drop (count + 1) names) v))
