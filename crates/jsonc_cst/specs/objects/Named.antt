-- Values of properties by name: found, or set.
use Rattle.std.specs.Prelude.{ℕ, List, Option}
use Rattle.jsonc_tree.specs.Tree.{Node}
use Rattle.jsonc_edit.specs.Paths.{IsAt}
use Rattle.jsonc_text.specs.declared.edit.EditError.{EditError}
use Rattle.jsonc_text.specs.declared.edit.Over.{Over}
use Rattle.jsonc_text.specs.declared.edit.Shape.{Shape}
use Rattle.jsonc_insert.specs.named.Named.{EnsureError, NamedEnsured}
use Rattle.jsonc_cst.specs.declared.cst.CstRootNode.{CstRootNode}
use Rattle.jsonc_cst.specs.declared.cst.node.CstNode.{CstNode}
use Rattle.jsonc_cst.specs.Document.{nodes_of}
use Rattle.jsonc_run.specs.promise.Steps.{IsStep}
use Rattle.jsonc_run.specs.Edits.{ensure_property}
use Rattle.jsonc_cst.specs.Nodes.{number_of}

module _ (old new : List Node) where
  -- which edit that is, if c is an object in the document
  abbrev pub IsEnsuringNamed : ℕ → List ℕ → Shape → Over → Type 0
  IsEnsuringNamed c name shape how = IsStep IsAt (λ path. ensure_property path name shape how) old new c

-- the same of a document
module _ {A : Type 0} (old new : CstRootNode A) where
  -- the first property of the name has a value of the shape, or another that was to stay; the value of the shape is answered, if there is one
  abbrev pub HasEnsured : Shape → Over → CstNode → List ℕ → Option ℕ → Type 0
  HasEnsured shape how node name answer = NamedEnsured shape how (nodes_of old) (nodes_of new) (number_of node) name answer

-- why not
abbrev pub EnsureErrorIn : {A : Type 0} → CstRootNode A → Shape → Over → CstNode → List ℕ → EditError → Type 0
EnsureErrorIn d shape how node name e = EnsureError shape how (nodes_of d) (number_of node) name e
