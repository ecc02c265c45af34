-- A property gets another name: what the call makes of a document, and what it answers.
use Rattle.std.specs.Prelude.{◌≡◌, ℕ, false, List, Some, Result, IfErr, IfOk, OnErr, OnOk}
use Rattle.jsonc_text.specs.Options.{Options}
use Rattle.jsonc_text.specs.declared.edit.EditError.{EditError}
use Rattle.jsonc_tree.specs.Tree.{Node}
use Rattle.jsonc_layout.specs.nodes.Properties.{lacks_name_at, name_at}
use Rattle.jsonc_edit.specs.set.Names.{IsMarkedForName, IsRenamed, RenameError, StaysAroundName}
use Rattle.jsonc_cst.specs.declared.cst.CstRootNode.{CstRootNode}
use Rattle.jsonc_cst.specs.declared.cst.node.CstNode.{CstNode}
use Rattle.jsonc_cst.specs.Document.{nodes_of, HasNode}
use Rattle.jsonc_cst.specs.Nodes.{number_of}
use Rattle.jsonc_cst.specs.typed.Edits.{HandlesStay, IsDetached, IsUntouched, KeepsDocument}
use Rattle.jsonc_cst.specs.typed.Removing.{IsKeptForMemory}
use Rattle.jsonc_cst.specs.typed.Steps.{IsRenamingProperty}

module _ (old new : List Node) where
  -- the node that was the name of the property p is detached
  abbrev pub NameIsDetached : ℕ → Type 0
  NameIsDetached p = (n : ℕ) → name_at old p ≡ Some n → IsDetached new n

-- the property has this name, which is the other node
abbrev pub HasBeenRenamed : {A : Type 0} → CstRootNode A → CstRootNode A → CstNode → List ℕ → CstNode → Type 0
HasBeenRenamed old new node name now = IsRenamed (nodes_of old) (nodes_of new) (number_of node) name (number_of now)

-- The property has this name, whose node is answered, and the old one is detached: one step. Sound or not, of the document's leaves that name
-- alone is another, and of its literals and comments. Or an error has left every node as it was: for memory, or since the name or the colon
-- is missing.
pub record IsRenaming {A : Type 0} (old new : CstRootNode A) (node : CstNode) (name : List ℕ) (r : Result CstNode EditError) : Type 0 where
  pub renamed : IfOk r (HasBeenRenamed old new node name)
  pub step : OnOk r (IsRenamingProperty (nodes_of old) (nodes_of new) (number_of node) name)
  pub marked : OnOk r (IsMarkedForName (nodes_of old) (nodes_of new) (number_of node) name)
  pub around : OnOk r (StaysAroundName (nodes_of old) (nodes_of new) (number_of node) name)
  pub detached : OnOk r (KeepsDocument old new node)
  pub gone : OnOk r (NameIsDetached (nodes_of old) (nodes_of new) (number_of node))
  pub named : OnOk r (lacks_name_at (nodes_of old) (number_of node) ≡ false)
  pub is_name : IfOk r (λ m. name_at (nodes_of new) (number_of node) ≡ Some (number_of m))
  pub in_document : IfOk r (HasNode new)
  pub handles : HandlesStay old new
  pub error : IfErr r (RenameError (nodes_of old) (number_of node))
  pub memory : (o : Options) → IfErr r (IsKeptForMemory old o node)
  pub untouched : OnErr r (IsUntouched old new)
