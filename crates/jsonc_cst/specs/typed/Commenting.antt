-- A comment is inserted above an entry or after it: what the call makes of a document.
use Rattle.std.specs.Prelude.{◌≡◌, ℕ, List, Result, IfErr, OnErr, OnOk}
use Rattle.jsonc_text.specs.Options.{Options}
use Rattle.jsonc_text.specs.declared.edit.EditError.{EditError}
use Rattle.jsonc_text.specs.declared.edit.Place.{Place}
use Rattle.jsonc_edit.specs.commenting.Inserting.{Comes, InsertsAmong, InsertsComment, IsRefusedFor, MayCome}
use Rattle.jsonc_cst.specs.declared.cst.CstRootNode.{CstRootNode}
use Rattle.jsonc_cst.specs.declared.cst.node.CstNode.{CstNode}
use Rattle.jsonc_cst.specs.Document.{nodes_of, tree_of}
use Rattle.jsonc_cst.specs.Nodes.{number_of}
use Rattle.jsonc_cst.specs.typed.Edits.{HandlesStay, KeepsDocument, Unchanged}
use Rattle.jsonc_cst.specs.typed.Steps.{IsInsertingComment}

-- the comment of this text, in bytes, may be inserted above the node or after it, and has been
abbrev pub HasCommentInserted : {A : Type 0} → CstRootNode A → CstRootNode A → CstNode → Place → List ℕ → Type 0
HasCommentInserted old new node place text = MayCome place (nodes_of old) (number_of node) text × Comes place (nodes_of old) (nodes_of new) (number_of node) text

-- The comment has been inserted beside the node, which is an entry or the document's value: the call is one step. If the document was sound and its options allow
-- comments, it is sound, with the value that it had and this one comment more. Sound or not, the comment is beside the node's leaves, and all other leaves stay. Or
-- an error has left every node as it was: it is no whole comment, the node is no entry, the line continues, or memory was refused.
pub record IsCommentInsertion {A : Type 0} (old new : CstRootNode A) (node : CstNode) (place : Place) (text : List ℕ) (r : Result (Unit {0}) EditError) : Type 0 where
  pub inserted : OnOk r (HasCommentInserted old new node place text)
  pub step : OnOk r (IsInsertingComment (nodes_of old) (nodes_of new) (number_of node) place text)
  pub written : (o : Options) → OnOk r (InsertsComment o (nodes_of old) (nodes_of new) (number_of node) text)
  pub among : OnOk r (InsertsAmong place (nodes_of old) (nodes_of new) (number_of node) text)
  pub detached : OnOk r (KeepsDocument old new node)
  pub error : IfErr r (IsRefusedFor place (nodes_of old) (number_of node) text)
  pub handles : HandlesStay old new
  pub kept : OnErr r (Unchanged old new)
  pub document : OnErr r (tree_of new ≡ tree_of old)
