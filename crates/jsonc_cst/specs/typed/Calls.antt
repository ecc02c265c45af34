-- What the edits of typed nodes make of a document, and what they answer: each record is the one clause of its calls. SetCalls.antt has those that set a value.
use Rattle.std.specs.Prelude.{◌≡◌, ℕ, true, false, None, Option, Result, Err, IfErr, IfNone, IfOk, IfSome, IsTrue, OnErr, OnOk}
use Rattle.jsonc_text.specs.Options.{Options}
use Rattle.jsonc_text.specs.Plain.{Plain}
use Rattle.jsonc_text.specs.declared.edit.EditError.{EditError}
use Rattle.jsonc_text.specs.declared.edit.EditError.TheVariants.{NoSuchPlace, NotAnEntry, OutOfMemory}
use Rattle.jsonc_text.specs.declared.edit.TrailingCommaMode.{TrailingCommaMode}
use Rattle.jsonc_text.specs.declared.edit.TrailingCommaMode.TheVariants.{IfMultiline}
use Rattle.jsonc_tree.specs.Tree.{parent_at}
use Rattle.jsonc_edit.specs.commas.InTurn.{CommaIsDue}
use Rattle.jsonc_cst.specs.declared.cst.CstRootNode.{CstRootNode}
use Rattle.jsonc_cst.specs.declared.cst.node.CstNode.{CstNode}
use Rattle.jsonc_cst.specs.Document.{nodes_of, parent_of, tree_of, HasNode}
use Rattle.jsonc_cst.specs.Nodes.{number_of}
use Rattle.jsonc_cst.specs.typed.Commas.{CommasSaid, CommasSet, CommasSetInPart, AllCommasSet, CommasStay}
use Rattle.jsonc_cst.specs.typed.Edits.{IsReplacedBy, NodeIsDetached, HasMarked, HasStayedAround, IsUntouched}
use Rattle.jsonc_cst.specs.typed.Edits.{KeepsDocument, KeepsDocumentOf, Unchanged, HandlesStay}
use Rattle.jsonc_cst.specs.typed.Inserting.{HasInsertedElement, InsertError, IsItsElement, KeepsOthers}
use Rattle.jsonc_cst.specs.typed.Lines.{HasSpreadOut, IsOnLines, StaysUnspread}
use Rattle.jsonc_cst.specs.typed.Removing.{is_name_or_value, removal_of, EntryCleared, NodeRemoved, IsKeptForMemory, IsKeptIn, IsKeptWithComments, IsLoose}
use Rattle.jsonc_cst.specs.typed.Removing.{RemovalAround, RemovalKeepsDocument, RemovedIsDetached, RemovalWritten}
use Rattle.jsonc_cst.specs.typed.Steps.{is_value, IsHolder, IsRemoving, IsReplacing, IsSettingCommas, IsSettingSomeCommas, IsSpreading, IsValueIn}

-- The node has been removed with what is removed with it, and is detached: one step. If the document was sound, it is so without that entry, value or comment, and
-- what is around stays. Or an error has left every node as it was, for the memory of a space or for brackets that are missing.
pub record IsRemoval {A : Type 0} (old new : CstRootNode A) (node : CstNode) (r : Result (Unit {0}) EditError) : Type 0 where
  pub removed : OnOk r (NodeRemoved old new node)
  pub written : (o : Options) → OnOk r (RemovalWritten old new o node)
  pub around : (o : Options) → OnOk r (RemovalAround old new o node)
  pub step : OnOk r (IsRemoving (nodes_of old) (nodes_of new) (removal_of node) (number_of node))
  pub detached : OnOk r (RemovalKeepsDocument old new node)
  pub gone : OnOk r (RemovedIsDetached new node)
  pub untouched : IsLoose old node → IsUntouched old new
  pub handles : HandlesStay old new
  pub error : IfErr r (IsKeptIn old node)
  pub memory : (o : Options) → IfErr r (IsKeptForMemory old o node)
  pub kept : OnErr r (Unchanged old new)
  pub document : OnErr r (tree_of new ≡ tree_of old)

-- So an entry has been taken out, and is detached, and then those of its comments that its container had still; any other node as by the call before. Or an
-- error has left every node as it was: memory was refused, or the call before says why.
pub record IsRemovalWithComments {A : Type 0} (old new : CstRootNode A) (node : CstNode) (r : Result (Unit {0}) EditError) : Type 0 where
  pub removed : OnOk r (EntryCleared old new node)
  pub alone : parent_at (nodes_of old) (number_of node) ≡ None → IsRemoval old new node r
  pub gone : OnOk r (RemovedIsDetached new node)
  pub untouched : IsLoose old node → IsUntouched old new
  pub handles : HandlesStay old new
  pub error : IfErr r (IsKeptWithComments old node)
  pub memory : (o : Options) → IfErr r (IsKeptForMemory old o node)
  pub kept : OnErr r (Unchanged old new)
  pub document : OnErr r (tree_of new ≡ tree_of old)

-- So any node has been removed but the name or the value of a property: of these the error is NotAnEntry, before anything has changed. No other node has that error.
pub record IsEntryRemoval {A : Type 0} (old new : CstRootNode A) (node : CstNode) (r : Result (Unit {0}) EditError) : Type 0 where
  pub removed : is_name_or_value (nodes_of old) (number_of node) ≡ false → IsRemovalWithComments old new node r
  pub refused : IsTrue (is_name_or_value (nodes_of old) (number_of node)) → (r ≡ Err NotAnEntry) × IsUntouched old new
  pub handles : HandlesStay old new
  pub kept : OnErr r (Unchanged old new)
  pub document : OnErr r (tree_of new ≡ tree_of old)

-- The node has been replaced by the value, which is the node that is answered, and is detached; of a value in the document that is one step. Sound or not, the
-- node's literals and comments have been replaced by the value's literals, and all leaves around stay. Or it had no parent, and nothing has changed; or memory was
-- refused, and every node is as it was.
pub record IsReplacement {A : Type 0} (old new : CstRootNode A) (node : CstNode) (v : Plain) (r : Result (Option CstNode) EditError) : Type 0 where
  pub replaced : IfOk r (λ o. IfSome o (IsReplacedBy old new node v))
  pub marked : IfOk r (λ o. IfSome o (λ m. HasMarked old new node v))
  pub around : IfOk r (λ o. IfSome o (λ m. HasStayedAround old new node v))
  pub step : IfOk r (λ o. IfSome o (λ m. IsValueIn (nodes_of old) node → IsReplacing (nodes_of old) (nodes_of new) (number_of node) v))
  pub detached : IfOk r (λ o. IfSome o (λ m. KeepsDocument old new node))
  pub gone : IfOk r (λ o. IfSome o (λ m. NodeIsDetached old new node))
  pub none : IfOk r (λ o. IfNone o (parent_of old node ≡ None))
  pub untouched : IfOk r (λ o. IfNone o (IsUntouched old new))
  pub in_document : IfOk r (λ o. IfSome o (HasNode new))
  pub handles : HandlesStay old new
  pub memory : IfErr r (λ e. e ≡ OutOfMemory)
  pub child : OnErr r (parent_of old node ≡ None → ⊥)
  pub kept : OnErr r (Unchanged old new)
  pub document : OnErr r (tree_of new ≡ tree_of old)

-- So an array, an object or a literal has been replaced. Of any other node the error is NoSuchPlace, before anything has changed.
pub record IsValueReplacement {A : Type 0} (old new : CstRootNode A) (node : CstNode) (v : Plain) (r : Result (Option CstNode) EditError) : Type 0 where
  pub replaced : is_value node ≡ true → IsReplacement old new node v r
  pub refused : is_value node ≡ false → (r ≡ Err NoSuchPlace) × IsUntouched old new
  pub handles : HandlesStay old new
  pub kept : OnErr r (Unchanged old new)
  pub document : OnErr r (tree_of new ≡ tree_of old)

-- The value has been inserted into the array at the place, as its element of the number i or its last, and its node is answered: the call is the step that is
-- named. All other nodes stay. Or an error has left every node as it was, for memory or for brackets that are missing.
pub record IsInsertion {A : Type 0} (old new : CstRootNode A) (node : CstNode) (i place : ℕ) (v : Plain) (is_step : Type 0) (r : Result CstNode EditError) : Type 0 where
  pub put : IfOk r (HasInsertedElement old new node place v)
  pub element : IfOk r (IsItsElement old new node i)
  pub step : OnOk r is_step
  pub others : OnOk r (KeepsOthers old new node)
  pub detached : OnOk r (KeepsDocument old new node)
  pub error : IfErr r (InsertError old node)
  pub memory : (o : Options) → IfErr r (IsKeptForMemory old o node)
  pub in_document : IfOk r (HasNode new)
  pub handles : HandlesStay old new
  pub kept : OnErr r (Unchanged old new)
  pub document : OnErr r (tree_of new ≡ tree_of old)

-- The array or object has been put on several lines, or was on several: one step. Or an error has left every node as it was, for memory or for brackets that are
-- missing.
pub record IsPutOnLines {A : Type 0} (old new : CstRootNode A) (node : CstNode) (r : Result (Unit {0}) EditError) : Type 0 where
  pub made : OnOk r (HasSpreadOut old new node)
  pub step : OnOk r (IsSpreading (nodes_of old) (nodes_of new) (number_of node))
  pub lines : OnOk r (IsOnLines new node)
  pub detached : OnOk r (KeepsDocument old new node)
  pub error : IfErr r (StaysUnspread old node)
  pub memory : (o : Options) → IfErr r (IsKeptForMemory old o node)
  pub handles : HandlesStay old new
  pub kept : OnErr r (Unchanged old new)
  pub document : OnErr r (tree_of new ≡ tree_of old)

-- what is said of the node if it is the root, an array or an object, and what is said of the document in any case
abbrev pub IfHolder : CstNode → Type 0 → Type 0
IfHolder node Said = IsHolder node → Said

abbrev pub InAnyCase : Type 0 → Type 0
InAnyCase Said = Said

-- The trailing commas of the node n, and of all arrays and objects below it, have been set: one step, where `in_case` says so. If n is in a sound document, each of
-- them is as the mode says, and a further call changes nothing. Or an error has left the first of them set, for the memory of a comma, which is a step too. A
-- document that n is not in is what it was.
pub record AreCommasSet {A : Type 0} (old new : CstRootNode A) (mode : TrailingCommaMode) (n : ℕ) (in_case : Type 0 → Type 0) (r : Result (Unit {0}) EditError) : Type 0 where
  pub set : OnOk r (CommasSet (nodes_of old) (nodes_of new) mode n)
  pub said : OnOk r (CommasSaid (nodes_of old) (nodes_of new) mode n)
  pub part : OnErr r (CommasSetInPart (nodes_of old) (nodes_of new) mode n)
  pub all_set : (o : Options) → OnOk r (AllCommasSet (nodes_of old) (nodes_of new) mode o n)
  pub once : (o : Options) → OnOk r (CommasStay (nodes_of old) (nodes_of new) mode o n)
  pub step : OnOk r (in_case (IsSettingCommas (nodes_of old) (nodes_of new) mode n))
  pub begun : OnErr r (in_case (IsSettingSomeCommas (nodes_of old) (nodes_of new) mode n))
  pub detached : KeepsDocumentOf (nodes_of old) (nodes_of new) n
  pub oom_only_if : OnErr r (mode ≡ IfMultiline)
  pub needed : OnErr r (CommaIsDue (nodes_of old) n)
  pub memory : IfErr r (λ e. e ≡ OutOfMemory)
  pub handles : HandlesStay old new
