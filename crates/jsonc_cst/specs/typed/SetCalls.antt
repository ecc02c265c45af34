-- What the edits make of a document that set a value, or replace a property, and what they answer: each record is the one clause of its calls.
use Rattle.std.specs.Prelude.{◌≡◌, ℕ, Bool, true, false, List, Option, Some, None, option_map, Result, IfErr, IfNone, IfOk, IfSome, OnErr, OnOk}
use Rattle.jsonc_text.specs.Options.{Options}
use Rattle.jsonc_text.specs.Plain.{Plain}
use Rattle.jsonc_text.specs.declared.edit.EditError.{EditError}
use Rattle.jsonc_text.specs.declared.edit.EditError.TheVariants.{MissingName, OutOfMemory}
use Rattle.jsonc_text.specs.declared.edit.Over.TheVariants.{Keep, Replace}
use Rattle.jsonc_text.specs.declared.edit.Shape.{Shape}
use Rattle.jsonc_layout.specs.nodes.Properties.{lacks_name_at, value_at}
use Rattle.jsonc_edit.specs.set.Booleans.{WantsSpaceFor}
use Rattle.jsonc_edit.specs.set.Kinds.{LacksKind}
use Rattle.jsonc_edit.specs.set.PropertyValues.{EnsureValueError}
use Rattle.jsonc_edit.specs.set.Shapes.{is_of}
use Rattle.jsonc_cst.specs.declared.cst.CstRootNode.{CstRootNode}
use Rattle.jsonc_cst.specs.declared.cst.node.CstNode.{CstNode}
use Rattle.jsonc_cst.specs.Document.{nodes_of, parent_of, tree_of, HasNode}
use Rattle.jsonc_cst.specs.Nodes.{number_of}
use Rattle.jsonc_cst.specs.Readings.{value_under}
use Rattle.jsonc_cst.specs.typed.Edits.{NodeIsDetached, IsUntouched, KeepsDocument, Unchanged, HandlesStay}
use Rattle.jsonc_cst.specs.typed.Around.{HeldShapeStaysAround, HeldStaysAround}
use Rattle.jsonc_cst.specs.typed.Marked.{HeldIsMarked, HeldShapeIsMarked}
use Rattle.jsonc_cst.specs.typed.Removing.{IsKeptForMemory}
use Rattle.jsonc_cst.specs.typed.Setting.{FindsOrCreates, FindsOrSets, HasBecomeProperty, IsLaidAsProperty, RootBecomes}
use Rattle.jsonc_cst.specs.typed.Steps.{IsEnsuringRoot, IsEnsuringValue, IsReplacingProperty, IsSettingBoolean, IsSettingRoot, IsSettingValue}
use Rattle.jsonc_cst.specs.typed.Values.{HasSetBoolean, IsChildOf, NodeValueIs, NowHolds}

-- The document has this value, and its node is answered: one step. Sound or not, the literals and comments of an old value have been replaced by the new one's
-- literals, and all leaves around stay. Or memory was refused, and every node is as it was.
pub record IsRootSet {A : Type 0} (old new : CstRootNode A) (v : Plain) (r : Result CstNode EditError) : Type 0 where
  pub set : IfOk r (RootBecomes (nodes_of old) (nodes_of new) v)
  pub marked : OnOk r (HeldIsMarked (nodes_of old) (nodes_of new) 0 v)
  pub around : OnOk r (HeldStaysAround (nodes_of old) (nodes_of new) 0 v)
  pub step : OnOk r (IsSettingRoot (nodes_of old) (nodes_of new) v)
  pub is_value : IfOk r (λ m. value_under new 0 ≡ Some m)
  pub in_document : IfOk r (HasNode new)
  pub handles : HandlesStay old new
  pub memory : IfErr r (λ e. e ≡ OutOfMemory)
  pub kept : OnErr r (Unchanged old new)
  pub document : OnErr r (tree_of new ≡ tree_of old)

-- The document's value is answered if it is of the shape; where there was none an empty one has been set, and is answered; where it is another, nothing is answered
-- and nothing has changed. The call is one step. Or memory was refused for a first value, and every node is as it was.
pub record IsRootCreated {A T : Type 0} (old new : CstRootNode A) (shape : Shape) (node : T → CstNode) (r : Result (Option T) EditError) : Type 0 where
  pub value : IfOk r (λ o. FindsOrCreates (nodes_of old) (nodes_of new) shape (option_map (λ x. number_of (node x)) o))
  pub step : OnOk r (IsEnsuringRoot (nodes_of old) (nodes_of new) shape Keep)
  pub is_value : IfOk r (λ o. IfSome o (λ x. value_under new 0 ≡ Some (node x)))
  pub in_document : IfOk r (λ o. IfSome o (λ x. HasNode new (node x)))
  pub handles : HandlesStay old new
  pub memory : IfErr r (λ e. e ≡ OutOfMemory)
  pub oom_only_if : OnErr r (value_at (nodes_of old) 0 ≡ None)
  pub kept : OnErr r (Unchanged old new)
  pub document : OnErr r (tree_of new ≡ tree_of old)

-- The document's value is answered, which is of the shape, or an empty one that has been set where there was none, or in the place of another: one step. Sound or
-- not, the literals and comments of another value have been removed, and all leaves around stay. Or memory was refused for a new value, and every node is as it was.
pub record IsRootEnsured {A T : Type 0} (old new : CstRootNode A) (shape : Shape) (node : T → CstNode) (r : Result T EditError) : Type 0 where
  pub value : IfOk r (λ x. FindsOrSets (nodes_of old) (nodes_of new) shape (number_of (node x)))
  pub marked : OnOk r (HeldShapeIsMarked (nodes_of old) (nodes_of new) shape 0)
  pub around : OnOk r (HeldShapeStaysAround (nodes_of old) (nodes_of new) shape 0)
  pub step : OnOk r (IsEnsuringRoot (nodes_of old) (nodes_of new) shape Replace)
  pub is_value : IfOk r (λ x. value_under new 0 ≡ Some (node x))
  pub in_document : IfOk r (λ x. HasNode new (node x))
  pub handles : HandlesStay old new
  pub memory : IfErr r (λ e. e ≡ OutOfMemory)
  pub oom_only_if : OnErr r (LacksKind (is_of shape) (nodes_of old) (value_at (nodes_of old) 0))
  pub kept : OnErr r (Unchanged old new)
  pub document : OnErr r (tree_of new ≡ tree_of old)

-- The property has been replaced by one of this name and value, which is the node that is answered, and is detached: one step. The new one is laid out by what is
-- around the old one. Or it had no parent, and nothing has changed; or memory was refused, and every node is as it was.
pub record IsPropertyReplacement {A : Type 0} (old new : CstRootNode A) (node : CstNode) (name : List ℕ) (v : Plain) (r : Result (Option CstNode) EditError) : Type 0 where
  pub replaced : IfOk r (λ o. IfSome o (HasBecomeProperty old new node name v))
  pub laid : IfOk r (λ o. IfSome o (IsLaidAsProperty old new node name v))
  pub step : IfOk r (λ o. IfSome o (λ m. IsReplacingProperty (nodes_of old) (nodes_of new) (number_of node) name v))
  pub detached : IfOk r (λ o. IfSome o (λ m. KeepsDocument old new node))
  pub gone : IfOk r (λ o. IfSome o (λ m. NodeIsDetached old new node))
  pub none : IfOk r (λ o. IfNone o (parent_of old node ≡ None))
  pub untouched : IfOk r (λ o. IfNone o (IsUntouched old new))
  pub in_document : IfOk r (λ o. IfSome o (HasNode new))
  pub handles : HandlesStay old new
  pub memory : IfErr r (λ e. e ≡ OutOfMemory)
  pub child : OnErr r (parent_of old node ≡ None → ⊥)
  pub kept : OnErr r (Unchanged old new)
  pub document : OnErr r (tree_of new ≡ tree_of old)

-- The property has this value, and the value's node is answered, a child of it: one step. Sound or not, the literals and comments of the old value have been replaced
-- by the new one's literals, and all leaves around stay. Or memory was refused, and every node is as it was.
pub record IsValueSet {A : Type 0} (old new : CstRootNode A) (node : CstNode) (v : Plain) (r : Result CstNode EditError) : Type 0 where
  pub set : IfOk r (NodeValueIs old new node v)
  pub marked : OnOk r (HeldIsMarked (nodes_of old) (nodes_of new) (number_of node) v)
  pub around : OnOk r (HeldStaysAround (nodes_of old) (nodes_of new) (number_of node) v)
  pub step : OnOk r (IsSettingValue (nodes_of old) (nodes_of new) (number_of node) v)
  pub detached : OnOk r (KeepsDocument old new node)
  pub child : IfOk r (IsChildOf new node)
  pub in_document : IfOk r (HasNode new)
  pub handles : HandlesStay old new
  pub memory : IfErr r (λ e. e ≡ OutOfMemory)
  pub kept : OnErr r (Unchanged old new)
  pub document : OnErr r (tree_of new ≡ tree_of old)

-- The property's value is answered, which is of the shape, or an empty one that has been set where there was none, or in the place of another: one step. Sound or
-- not, the literals and comments of another value have been removed, and all leaves around stay. The property has a name and a colon. Or an error has left every
-- node as it was: for memory, or since the name or the colon is missing.
pub record IsValueEnsured {A T : Type 0} (old new : CstRootNode A) (shape : Shape) (node : CstNode) (answered : T → CstNode) (r : Result T EditError) : Type 0 where
  pub value : IfOk r (λ x. NowHolds old new shape node (number_of (answered x)))
  pub marked : OnOk r (HeldShapeIsMarked (nodes_of old) (nodes_of new) shape (number_of node))
  pub around : OnOk r (HeldShapeStaysAround (nodes_of old) (nodes_of new) shape (number_of node))
  pub step : OnOk r (IsEnsuringValue (nodes_of old) (nodes_of new) (number_of node) shape)
  pub detached : OnOk r (KeepsDocument old new node)
  pub named : OnOk r (lacks_name_at (nodes_of old) (number_of node) ≡ false)
  pub child : IfOk r (λ x. IsChildOf new node (answered x))
  pub in_document : IfOk r (λ x. HasNode new (answered x))
  pub handles : HandlesStay old new
  pub error : IfErr r (EnsureValueError (is_of shape) (nodes_of old) (number_of node))
  pub missing : IfErr r (λ e. lacks_name_at (nodes_of old) (number_of node) ≡ true → e ≡ MissingName)
  pub memory : (o : Options) → IfErr r (IsKeptForMemory old o node)
  pub kept : OnErr r (Unchanged old new)
  pub document : OnErr r (tree_of new ≡ tree_of old)

-- The truth value is this one: one step. Or memory was refused for a space, and every node is as it was.
pub record IsBooleanSet {A : Type 0} (old new : CstRootNode A) (node : CstNode) (b : Bool) (r : Result (Unit {0}) EditError) : Type 0 where
  pub set : OnOk r (HasSetBoolean old new node b)
  pub step : OnOk r (IsSettingBoolean (nodes_of old) (nodes_of new) (number_of node) b)
  pub detached : OnOk r (KeepsDocument old new node)
  pub handles : HandlesStay old new
  pub memory : IfErr r (λ e. e ≡ OutOfMemory)
  pub oom_only_if : OnErr r (WantsSpaceFor (nodes_of old) (number_of node) b)
  pub kept : OnErr r (Unchanged old new)
  pub document : OnErr r (tree_of new ≡ tree_of old)
