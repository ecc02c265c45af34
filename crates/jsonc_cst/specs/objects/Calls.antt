-- What the edits of objects make of a document, and what they answer: each record is the one clause of its calls.
use Rattle.std.specs.Prelude.{◌≡◌, ℕ, List, Option, Some, option_map, Result, IfErr, IfOk, IfSome, OnErr, OnOk}
use Rattle.jsonc_text.specs.Options.{Options}
use Rattle.jsonc_text.specs.Plain.{Plain}
use Rattle.jsonc_text.specs.declared.edit.EditError.{EditError}
use Rattle.jsonc_text.specs.declared.edit.Over.{Over}
use Rattle.jsonc_text.specs.declared.edit.Shape.{Shape}
use Rattle.jsonc_cst.specs.declared.cst.CstRootNode.{CstRootNode}
use Rattle.jsonc_cst.specs.declared.cst.node.CstNode.{CstNode}
use Rattle.jsonc_cst.specs.declared.cst.node.CstObjectProp.{CstObjectProp}
use Rattle.jsonc_cst.specs.Document.{nodes_of, tree_of, HasNode}
use Rattle.jsonc_cst.specs.Nodes.{number_of, object_prop_node}
use Rattle.jsonc_cst.specs.objects.Members.{HasInsertedProperty, IsItsProperty}
use Rattle.jsonc_cst.specs.objects.Named.{EnsureErrorIn, HasEnsured, IsEnsuringNamed}
use Rattle.jsonc_cst.specs.typed.Edits.{KeepsDocument, Unchanged, HandlesStay}
use Rattle.jsonc_cst.specs.typed.Inserting.{InsertError, KeepsOthers}
use Rattle.jsonc_cst.specs.typed.Removing.{IsKeptForMemory}

-- The property has been inserted into the object at the place, as its property of the number i or its last, and is answered: the call is the step that is named.
-- All other nodes stay. Or an error has left every node as it was, for memory or for brackets that are missing.
pub record IsNamedInsertion {A : Type 0} (old new : CstRootNode A) (node : CstNode) (i place : ℕ) (name : List ℕ) (v : Plain) (is_step : Type 0) (r : Result CstObjectProp EditError) : Type 0 where
  pub put : IfOk r (HasInsertedProperty old new node place name v)
  pub property : IfOk r (IsItsProperty old new node i)
  pub step : OnOk r is_step
  pub others : OnOk r (KeepsOthers old new node)
  pub detached : OnOk r (KeepsDocument old new node)
  pub error : IfErr r (InsertError old node)
  pub memory : (o : Options) → IfErr r (IsKeptForMemory old o node)
  pub in_document : IfOk r (λ p. HasNode new (object_prop_node p))
  pub handles : HandlesStay old new
  pub kept : OnErr r (Unchanged old new)
  pub document : OnErr r (tree_of new ≡ tree_of old)

-- How an answer is seen: as the number of a node, if it is one, and as what is said of that node.
module _ {T : Type 0} (node : T → CstNode) where
  abbrev pub number_in : T → Option ℕ
  number_in x = Some (number_of (node x))

  abbrev pub IsSaidOf : T → (CstNode → Type 0) → Type 0
  IsSaidOf x Said = Said (node x)

  abbrev pub number_if : Option T → Option ℕ
  number_if answer = option_map (λ x. number_of (node x)) answer

  abbrev pub IsSaidIf : Option T → (CstNode → Type 0) → Type 0
  IsSaidIf answer Said = IfSome answer (λ x. Said (node x))

-- The value of the first property of the name is answered, if it is of the shape. Where no property has the name, one with an empty value of the shape has been
-- inserted, which is answered; where another value was to be replaced, an empty one has its place. The call is one step. Or an error has left every node as it
-- was: for memory, for brackets that are missing, or for a colon.
module _ {A T : Type 0} (old new : CstRootNode A) (shape : Shape) (how : Over) (node : CstNode) (name : List ℕ) where
  pub record IsNamedEnsured (number : T → Option ℕ) (is_said : T → (CstNode → Type 0) → Type 0) (r : Result T EditError) : Type 0 where
    pub ensured : IfOk r (λ a. HasEnsured old new shape how node name (number a))
    pub step : OnOk r (IsEnsuringNamed (nodes_of old) (nodes_of new) (number_of node) name shape how)
    pub detached : OnOk r (KeepsDocument old new node)
    pub error : IfErr r (EnsureErrorIn old shape how node name)
    pub memory : (o : Options) → IfErr r (IsKeptForMemory old o node)
    pub in_document : IfOk r (λ a. is_said a (HasNode new))
    pub handles : HandlesStay old new
    pub kept : OnErr r (Unchanged old new)
    pub document : OnErr r (tree_of new ≡ tree_of old)
