-- What a sort makes of a document.
use Rattle.std.specs.Prelude.{◌≡◌, ℕ, true, List, [], ◌∷◌}
use Rattle.jsonc_text.specs.Options.{Options}
use Rattle.jsonc_text.specs.Documents.{Document, IsOne}
use Rattle.jsonc_tree.specs.Content.{object}
use Rattle.jsonc_tree.specs.OrderedTree.{ordered_tree}
use Rattle.jsonc_tree.specs.Tree.{Node, content_at}
use Rattle.jsonc_edit.specs.Paths.{IsAt}
use Rattle.jsonc_run.specs.texts.Edits.{Run, rearrange}
use Rattle.jsonc_cst.specs.declared.cst.CstRootNode.{CstRootNode}
use Rattle.jsonc_cst.specs.Document.{tree_of}
use Rattle.jsonc_cst.specs.typed.Edits.{KeepsDocumentOf}
use Rattle.jsonc_run.specs.Edits as edits
use Rattle.jsonc_run.specs.promise.Steps.{IsStep}
use Rattle.jsonc_run.specs.promise.Within.{StaysWithin}
use Rattle.jsonc_sort.specs.Sorting.{Headers}
use Rattle.jsonc_sound.specs.Documents.{Shows}
use Rattle.jsonc_sound.specs.SoundTrees.{SoundTree}
use Rattle.jsonc_parser.specs.patch.Found.{IsOfShown}
use Rattle.jsonc_engine.specs.Sorting.{IsByName}

-- The properties of the object at the path come in the order of their names as they are written, without quotes, byte by byte, each with what goes with it; those of one
-- name stay in their order. That is one operation.
pub record SortsAt (path : List ℕ) (d e : Document) : Type 0 where
  pub nodes : List Node
  pub shown : Shows d (ordered_tree nodes 0)
  pub object_node : ℕ
  pub at : IsAt nodes path object_node
  pub is_object : content_at nodes object_node ≡ object
  pub order : List ℕ
  pub by_name : IsByName nodes object_node order
  pub sorted : Run d (rearrange true path order ∷ []) e

-- so it is of several objects, one after another
pub data SortsObjects : Document → Document → Type 0 where
  none_left : {d : Document} → IsOne d → SortsObjects d d
  one_sorted : {d m e : Document} (path : List ℕ) → SortsAt path d m → SortsObjects m e → SortsObjects d e

-- In nodes: the properties of the object c are in the order of their names, where it stands in a sound document. The call is one step; where it stands in none, nothing of the
-- document has changed.
pub record HasSorted (old new : List Node) (c : ℕ) : Type 0 where
  pub order : List ℕ
  pub headers : Headers
  pub by_name : (o : Options) (path : List ℕ) → SoundTree o (ordered_tree old 0) → IsAt old path c → content_at old c ≡ object → IsByName old c order
  pub detached : KeepsDocumentOf old new c
  pub step : IsStep IsAt (λ path. edits.rearrange true path headers order) old new c

module _ {A : Type 0} where
  -- objects have been sorted in the document that the old one shows
  abbrev pub SortsWhatShown : CstRootNode A → CstRootNode A → Type 0
  SortsWhatShown old new = IsOfShown old (λ d. (e : Document) × Shows e (tree_of new) × (e.options ≡ d.options) × StaysWithin d e × SortsObjects d e)
