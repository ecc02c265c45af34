-- What the clauses of typed calls say is a call.
use Rattle.std.proofs.Common.{◌≡◌, ℕ, ◌<◌, Bool, true, false, List, length, Option, Some, None, option_map, refl, ap}
use Rattle.jsonc_text.specs.Plain.{Plain}
use Rattle.jsonc_layout.specs.nodes.Properties.{value_at}
use Rattle.jsonc_tree.specs.Content.{Content}
use Rattle.jsonc_tree.specs.Tree.{Node, parent_at, IsOver, IsTree}
use Rattle.jsonc_edit.specs.Comments.{TakesOut}
use Rattle.jsonc_edit.specs.set.Shapes.{empty_of, is_of}
use Rattle.jsonc_edit.proofs.lemmas.set.Renaming.{named_child}
use Rattle.jsonc_text.specs.declared.edit.TrailingCommaMode.{TrailingCommaMode}
use Rattle.jsonc_edit.specs.remove.Removed.{TakesElement}
use Rattle.jsonc_text.specs.declared.edit.Over.{Over}
use Rattle.jsonc_text.specs.declared.edit.Place.{Place}
use Rattle.jsonc_text.specs.declared.edit.Shape.{Shape}
use Rattle.jsonc_insert.specs.named.Named.{NamedEnsured}
use Rattle.jsonc_sort.specs.Sorting.{Headers}
use Rattle.jsonc_run.specs.Parents.{all_stay, boolean_set, children_leave, comes_on_lines, comment_leaves, commas_set, element_comes, element_leaves, gives_way, gives_way_raw, leaf_leaves, leaf_set, property_comes, property_gives_way, some_commas_set, sorted, comment_comes, IsCallOf}
use Rattle.jsonc_run.proofs.Calls.{call_of, call_of_same, found_or_created, found_or_set, held_given, held_last, held_or_set, named_ensured, root_first, root_given}
use Rattle.jsonc_cst.specs.declared.cst.CstRootNode.{CstRootNode}
use Rattle.jsonc_cst.specs.declared.cst.node.CstNode.{CstNode}
use Rattle.jsonc_cst.specs.declared.cst.node.CstObjectProp.{CstObjectProp}
use Rattle.jsonc_cst.specs.declared.typed.removing.Removal.{Removal}
use Rattle.jsonc_cst.specs.declared.typed.removing.Removal.TheVariants.{Clearing, OfComment, OfElement, OfLeaf}
use Rattle.jsonc_cst.specs.Document.{nodes_of, HasNode}
use Rattle.jsonc_cst.specs.Nodes.{container_of, number_of, object_prop_node}
use Rattle.jsonc_cst.specs.objects.Members.{HasInsertedProperty}
use Rattle.jsonc_cst.specs.objects.Named.{HasEnsured}
use Rattle.jsonc_cst.specs.sorting.Sorted.{IsPlaced}
use Rattle.jsonc_cst.specs.typed.AsCalls.{number_taken, IsCallIf, IsRootCallIf, LoneRemovalIsCall, RemovalIsCall}
use Rattle.jsonc_cst.specs.typed.Commas.{CommasSet, CommasSetInPart}
use Rattle.jsonc_cst.specs.typed.Commenting.{HasCommentInserted}
use Rattle.jsonc_cst.specs.typed.Edits.{is_name_in, IsReplacedBy, IsReplacedAs, IsUntouched, Unchanged}
use Rattle.jsonc_cst.specs.typed.Inserting.{HasInsertedElement}
use Rattle.jsonc_cst.specs.typed.Lines.{HasSpreadOut}
use Rattle.jsonc_cst.specs.typed.Raw.{HasBecome}
use Rattle.jsonc_cst.specs.typed.Removing.{removal_of, IsCleared, IsLooseFor, IsTakenBy, RemovedAlone}
use Rattle.jsonc_cst.specs.typed.Renaming.{HasBeenRenamed}
use Rattle.jsonc_cst.specs.typed.Setting.{FindsOrCreates, FindsOrSets, HasBecomeProperty, RootBecomes, ValueBecomes}
use Rattle.jsonc_cst.specs.typed.Values.{HasSetBoolean, HeldBecomes, NodeValueIs, NowHolds}
use Rattle.jsonc_cst.proofs.lemmas.typed.Commented.{beside}
use Rattle.jsonc_cst.proofs.lemmas.typed.PropertyValues.{held_property}

-- what the nodes are, by numbers
module _ (old new : List Node) (tree : IsTree old) where
  given_as : (b : Bool) (n m : ℕ) (v : Plain) → n < length old → IsReplacedAs b old new n v m → IsCallOf old new n
  given_as true n m v low given = call_of old new tree n low (gives_way_raw n m v given)
  given_as false n m v low given = call_of old new tree n low (gives_way n m v given)

  root_becomes : (v : Plain) (o : Option ℕ) (m : ℕ) → value_at old 0 ≡ o → ValueBecomes old new v o m → IsCallOf old new 0
  root_becomes v None m e first = root_first old new tree v m first
  root_becomes v (Some n) m e given = root_given old new tree v n m e given

  comment_taken : (n : ℕ) (o : Option ℕ) → n < length old → parent_at old n ≡ o → TakesOut old new n → (parent_at old n ≡ None → new ≡ old) → IsCallOf old new n
  comment_taken n None low e takes untouched = call_of_same old new tree n low (untouched e)
  comment_taken n (Some c) low e takes untouched = call_of old new tree n low (comment_leaves n c e (takes c e))

  element_taken : (n : ℕ) (o : Option ℕ) → n < length old → parent_at old n ≡ o → TakesElement old new n → (parent_at old n ≡ None → new ≡ old) → IsCallOf old new n
  element_taken n None low e takes untouched = call_of_same old new tree n low (untouched e)
  element_taken n (Some c) low e takes untouched = call_of old new tree n low (element_leaves n c e (takes c e).1)

  leaf_taken : (n : ℕ) (o : Option ℕ) → n < length old → parent_at old n ≡ o → RemovedAlone old new n → (parent_at old n ≡ None → new ≡ old) → IsCallOf old new n
  leaf_taken n None low e leaves untouched = call_of_same old new tree n low (untouched e)
  leaf_taken n (Some c) low e leaves untouched = call_of old new tree n low (leaf_leaves n c e (leaves c e))

  cleared : IsCleared old new → IsCallOf old new 0
  cleared s = call_of old new tree 0 tree.first (children_leave 0 0 _ s)

  taken_by : (r : Removal) (n : ℕ) → n < length old → IsTakenBy r old new n → (IsLooseFor r old n → new ≡ old) → IsCallOf old new (number_taken r n)
  taken_by Clearing n low s untouched = cleared s
  taken_by OfComment n low takes untouched = comment_taken n (parent_at old n) low refl takes untouched
  taken_by OfElement n low takes untouched = element_taken n (parent_at old n) low refl takes untouched
  taken_by OfLeaf n low leaves untouched = leaf_taken n (parent_at old n) low refl leaves untouched

  ensured : (c : ℕ) → c < length old → (name : List ℕ) (shape : Shape) (how : Over) (answer : Option ℕ) → NamedEnsured shape how old new c name answer → IsCallOf old new c
  ensured c low name shape how answer (found, first, by) = named_ensured old new tree c low name shape how found answer first by

-- the same of a document
module _ {A : Type 0} (old new : CstRootNode A) where
  pub kept_is_call : (node : CstNode) → IsCallIf old new node (Unchanged old new)
  kept_is_call node = λ tree held keeps. call_of (nodes_of old) (nodes_of new) tree (number_of node) held.0 (all_stay (number_of node) keeps)

  pub untouched_is_call : (node : CstNode) → IsCallIf old new node (IsUntouched old new)
  untouched_is_call node = λ tree held e. call_of_same (nodes_of old) (nodes_of new) tree (number_of node) held.0 e

  pub raw_is_call : (node : CstNode) (now : Content) → IsCallIf old new node (HasBecome old new node now)
  raw_is_call node now = λ tree held b. call_of (nodes_of old) (nodes_of new) tree (number_of node) held.0 (leaf_set (number_of node) now b)

  pub removal_is_call : (node : CstNode) → RemovalIsCall old new node
  removal_is_call node = λ tree held left untouched. taken_by (nodes_of old) (nodes_of new) tree (removal_of node) (number_of node) held.0 left untouched

  pub lone_removal_is_call : (node : CstNode) → LoneRemovalIsCall old new node
  lone_removal_is_call node = λ tree held left untouched.
      leaf_taken (nodes_of old) (nodes_of new) tree (number_of node) (parent_at (nodes_of old) (number_of node)) held.0 refl left (λ none. untouched (ap (option_map (container_of (nodes_of old))) none))

  pub given_is_call : (node : CstNode) (v : Plain) (now : CstNode) → IsCallIf old new node (IsReplacedBy old new node v now)
  given_is_call node v now = λ tree held given.
      given_as (nodes_of old) (nodes_of new) tree (is_name_in (nodes_of old) (number_of node)) (number_of node) (number_of now) v held.0 given

  pub property_is_call : (node : CstNode) (name : List ℕ) (v : Plain) (now : CstNode) → IsCallIf old new node (HasBecomeProperty old new node name v now)
  property_is_call node name v now = λ tree held given. call_of (nodes_of old) (nodes_of new) tree (number_of node) held.0 (property_gives_way (number_of node) (number_of now) name v given)

  -- of the name, which is in the property
  pub renamed_is_call : (node : CstNode) (name : List ℕ) (now : CstNode) → IsCallIf old new node (HasBeenRenamed old new node name now)
  renamed_is_call node name now = λ tree held given.
      record {
        in_tree = held.0;
        at = given.0;
        over = IsOver.above (named_child (nodes_of old) tree (number_of node) given.0 given.1) IsOver.itself;
        is = gives_way_raw given.0 (number_of now) (Plain.string name) given.2;
      }

  pub comment_is_call : (node : CstNode) (place : Place) (text : List ℕ) → IsCallIf old new node (HasCommentInserted old new node place text)
  comment_is_call node place text = λ tree held came.
      let b = beside (nodes_of old) (nodes_of new) place (number_of node) text came.0 came.1 in
      call_of (nodes_of old) (nodes_of new) tree (number_of node) held.0 (comment_comes (number_of node) b.0 b.2 b.3 b.1 b.4)

  pub clearing_is_call : IsRootCallIf old new (IsCleared (nodes_of old) (nodes_of new))
  clearing_is_call = λ tree s. cleared (nodes_of old) (nodes_of new) tree s

  pub root_is_call : (v : Plain) (now : CstNode) → IsRootCallIf old new (RootBecomes (nodes_of old) (nodes_of new) v now)
  root_is_call v now = λ tree set. root_becomes (nodes_of old) (nodes_of new) tree v (value_at (nodes_of old) 0) (number_of now) refl set

  pub root_created : (shape : Shape) (x : Option ℕ) → IsRootCallIf old new (FindsOrCreates (nodes_of old) (nodes_of new) shape x)
  root_created shape x = λ tree found. found_or_created (nodes_of old) (nodes_of new) tree (is_of shape) (empty_of shape) (value_at (nodes_of old) 0) x found

  pub root_set : (shape : Shape) (x : ℕ) → IsRootCallIf old new (FindsOrSets (nodes_of old) (nodes_of new) shape x)
  root_set shape x = λ tree found. found_or_set (nodes_of old) (nodes_of new) tree (is_of shape) (empty_of shape) (value_at (nodes_of old) 0) x refl found

  module _ (p : CstObjectProp) where
    becomes : (v : Plain) (o : Option ℕ) (m : ℕ) → IsTree (nodes_of old) → HasNode old (object_prop_node p) → value_at (nodes_of old) p.number ≡ o
        → HeldBecomes (nodes_of old) (nodes_of new) p.number v o m → IsCallOf (nodes_of old) (nodes_of new) p.number
    becomes v None m tree held e last = held_last (nodes_of old) (nodes_of new) tree p.number held.0 (held_property (nodes_of old) p held) v m last
    becomes v (Some n) m tree held e given = held_given (nodes_of old) (nodes_of new) tree p.number held.0 (held_property (nodes_of old) p held) v n m e given

    pub value_is_call : (v : Plain) (now : CstNode) → IsCallIf old new (object_prop_node p) (NodeValueIs old new (object_prop_node p) v now)
    value_is_call v now = λ tree held set. becomes v (value_at (nodes_of old) p.number) (number_of now) tree held refl set

    pub held_is_call : (shape : Shape) (x : ℕ) → IsCallIf old new (object_prop_node p) (NowHolds old new shape (object_prop_node p) x)
    held_is_call shape x = λ tree held set.
        held_or_set (nodes_of old) (nodes_of new) tree p.number held.0 (held_property (nodes_of old) p held) (is_of shape) (empty_of shape) (value_at (nodes_of old) p.number) x refl set

  module _ (node : CstNode) where
    pub boolean_is_call : (b : Bool) → IsCallIf old new node (HasSetBoolean old new node b)
    boolean_is_call b = λ tree held set. call_of (nodes_of old) (nodes_of new) tree (number_of node) held.0 (boolean_set (number_of node) b set)

    pub lines_are_call : IsCallIf old new node (HasSpreadOut old new node)
    lines_are_call = λ tree held made. call_of (nodes_of old) (nodes_of new) tree (number_of node) held.0 (comes_on_lines (number_of node) made)

    pub element_is_call : (i : ℕ) (v : Plain) (now : CstNode) → IsCallIf old new node (HasInsertedElement old new node i v now)
    element_is_call i v now = λ tree held put. call_of (nodes_of old) (nodes_of new) tree (number_of node) held.0 (element_comes (number_of node) i (number_of now) v put)

    pub named_is_call : (i : ℕ) (name : List ℕ) (v : Plain) (now : CstObjectProp) → IsCallIf old new node (HasInsertedProperty old new node i name v now)
    named_is_call i name v now = λ tree held put. call_of (nodes_of old) (nodes_of new) tree (number_of node) held.0 (property_comes (number_of node) i now.number name v put)

    pub ensured_is_call : (shape : Shape) (how : Over) (name : List ℕ) (x : Option ℕ) → IsCallIf old new node (HasEnsured old new shape how node name x)
    ensured_is_call shape how name x = λ tree held e. ensured (nodes_of old) (nodes_of new) tree (number_of node) held.0 name shape how x e

    pub commas_are_call : (mode : TrailingCommaMode) → IsCallIf old new node (CommasSet (nodes_of old) (nodes_of new) mode (number_of node))
    commas_are_call mode = λ tree held set. call_of (nodes_of old) (nodes_of new) tree (number_of node) held.0 (commas_set mode (number_of node) set)

    pub some_commas_are_call : (mode : TrailingCommaMode) → IsCallIf old new node (CommasSetInPart (nodes_of old) (nodes_of new) mode (number_of node))
    some_commas_are_call mode = λ tree held part. call_of (nodes_of old) (nodes_of new) tree (number_of node) held.0 (some_commas_set mode (number_of node) part)

    pub sort_is_call : (h : Headers) (order : List ℕ) → IsCallIf old new node (IsPlaced (nodes_of old) (nodes_of new) (number_of node) h order)
    sort_is_call h order = λ tree held placed. call_of (nodes_of old) (nodes_of new) tree (number_of node) held.0 (sorted (number_of node) h order placed.made)
