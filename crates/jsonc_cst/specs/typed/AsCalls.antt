-- What the clauses of typed calls say: each is a call of the laws of lists of calls.
use Rattle.std.specs.Prelude.{◌≡◌, ℕ, None}
use Rattle.jsonc_tree.specs.Tree.{IsTree}
use Rattle.jsonc_run.specs.Parents.{IsCallOf}
use Rattle.jsonc_cst.specs.declared.cst.CstRootNode.{CstRootNode}
use Rattle.jsonc_cst.specs.declared.cst.node.CstNode.{CstNode}
use Rattle.jsonc_cst.specs.declared.typed.removing.Removal.{Removal}
use Rattle.jsonc_cst.specs.declared.typed.removing.Removal.TheVariants.{Clearing, OfComment, OfElement, OfLeaf}
use Rattle.jsonc_cst.specs.Document.{nodes_of, parent_of, HasNode}
use Rattle.jsonc_cst.specs.Nodes.{number_of}
use Rattle.jsonc_cst.specs.typed.Edits.{IsUntouched}
use Rattle.jsonc_cst.specs.typed.Removing.{removal_of, NodeRemoved, NodeRemovedAlone, IsLoose}

-- the number of the node that a removal is of: where all are removed from the root, the document's
abbrev pub number_taken : Removal → ℕ → ℕ
number_taken Clearing n = 0
number_taken OfComment n = n
number_taken OfElement n = n
number_taken OfLeaf n = n

module _ {A : Type 0} (old new : CstRootNode A) where
  -- what is said, of a document that holds the node, is so by a call of the node
  abbrev pub IsCallIf : CstNode → Type 0 → Type 0
  IsCallIf node Said = IsTree (nodes_of old) → HasNode old node → Said → IsCallOf (nodes_of old) (nodes_of new) (number_of node)

  -- or by a call of the document
  abbrev pub IsRootCallIf : Type 0 → Type 0
  IsRootCallIf Said = IsTree (nodes_of old) → Said → IsCallOf (nodes_of old) (nodes_of new) 0

  -- so is what was removed with what is removed with it, or alone; where the node was detached nothing was
  abbrev pub RemovalIsCall : CstNode → Type 0
  RemovalIsCall node =
      IsTree (nodes_of old) → HasNode old node → NodeRemoved old new node → (IsLoose old node → IsUntouched old new)
      → IsCallOf (nodes_of old) (nodes_of new) (number_taken (removal_of node) (number_of node))

  abbrev pub LoneRemovalIsCall : CstNode → Type 0
  LoneRemovalIsCall node =
      IsTree (nodes_of old) → HasNode old node → NodeRemovedAlone old new node → (parent_of old node ≡ None → IsUntouched old new)
      → IsCallOf (nodes_of old) (nodes_of new) (number_of node)
