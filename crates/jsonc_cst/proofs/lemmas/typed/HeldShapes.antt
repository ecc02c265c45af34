-- A property's value, as an object or an array: what the calls say that find it or set it.
use Rattle.std.proofs.Common.{◌≡◌, ℕ, Ok, Err, true, false, refl}
use Rattle.jsonc_text.specs.declared.edit.EditError.{EditError}
use Rattle.jsonc_text.specs.declared.edit.EditError.TheVariants.{MissingName}
use Rattle.jsonc_text.specs.declared.edit.Shape.{Shape}
use Rattle.jsonc_tree.specs.Content as content
use Rattle.jsonc_tree.specs.Tree.{content_at}
use Rattle.jsonc_layout.specs.nodes.Properties.{lacks_name_at, value_at}
use Rattle.jsonc_edit.specs.set.PropertyValues.{EnsureValueError}
use Rattle.jsonc_edit.specs.set.Shapes.{empty_of, is_of}
use Rattle.jsonc_cst.specs.declared.cst.CstRootNode.{CstRootNode}
use Rattle.jsonc_cst.specs.declared.cst.node.CstNode.{CstNode}
use Rattle.jsonc_cst.specs.declared.cst.node.CstObjectProp.{CstObjectProp}
use Rattle.jsonc_cst.specs.Document.{nodes_of, tree_of, HasNode}
use Rattle.jsonc_cst.specs.Nodes.{number_of, object_prop_node}
use Rattle.jsonc_cst.specs.typed.Edits.{Unchanged}
use Rattle.jsonc_cst.specs.typed.SetCalls.{IsValueEnsured}
use Rattle.jsonc_cst.specs.typed.Values.{NowHolds}
use Rattle.jsonc_cst.proofs.lemmas.typed.CompleteNodes.{value_for_memory}
use Rattle.jsonc_cst.proofs.lemmas.typed.DetachedNodes.{found_elsewhere}
use Rattle.jsonc_cst.proofs.lemmas.typed.HandlesKept.{nodes_stay, stay_kept}
use Rattle.jsonc_cst.proofs.lemmas.typed.Around.{replaced_around}
use Rattle.jsonc_cst.proofs.lemmas.typed.Marked.{replaced_marked}
use Rattle.jsonc_cst.proofs.lemmas.typed.PropertyValues.{found_is_child, held_property, other_replaced, stay_found}
use Rattle.jsonc_cst.proofs.lemmas.typed.Steps.{held_shape_step}

module _ {A T : Type 0} (old new : CstRootNode A) (shape : Shape) (p : CstObjectProp) (held : HasNode old (object_prop_node p)) (answered : T → CstNode) where
  is : content_at (nodes_of old) p.number ≡ content.property
  is = held_property (nodes_of old) p held

  pub value_ensured : (x : T) → lacks_name_at (nodes_of old) p.number ≡ false → NowHolds old new shape (object_prop_node p) (number_of (answered x)) → HasNode new (answered x)
      → IsValueEnsured old new shape (object_prop_node p) answered (Ok x)
  value_ensured x named found there =
      let m : ℕ = number_of (answered x) in
      let replaced = other_replaced (is_of shape) (empty_of shape) (nodes_of old) (nodes_of new) p.number (value_at (nodes_of old) p.number) m found in
      record {
        value = found;
        marked = λ n was other. replaced_marked (nodes_of old) (nodes_of new) (empty_of shape) old.tree.tree n m (replaced n was other);
        around = λ n was other. replaced_around (nodes_of old) (nodes_of new) (empty_of shape) old.tree.tree n m (replaced n was other);
        step = held_shape_step (nodes_of old) (nodes_of new) old.tree.tree new.tree.tree p.number shape m named found is;
        detached = found_elsewhere (nodes_of old) (nodes_of new) old.tree.tree new.tree.tree p.number held.0 is (empty_of shape) (is_of shape) (value_at (nodes_of old) p.number) m refl found;
        named = named;
        child = found_is_child (nodes_of old) (nodes_of new) p.number (empty_of shape) old.tree.tree is (is_of shape) (value_at (nodes_of old) p.number) m refl found;
        in_document = there;
        handles = nodes_stay (nodes_of old) (nodes_of new) (stay_found (is_of shape) (empty_of shape) (nodes_of old) (nodes_of new) p.number (value_at (nodes_of old) p.number) m found);
        error = tt;
        missing = tt;
        memory = λ o. tt;
        kept = tt;
        document = tt;
      }

  -- why it was not, and then every node is as it was
  pub value_refused : (e : EditError) → EnsureValueError (is_of shape) (nodes_of old) p.number e → (lacks_name_at (nodes_of old) p.number ≡ true → e ≡ MissingName)
      → Unchanged old new → tree_of new ≡ tree_of old → IsValueEnsured old new shape (object_prop_node p) answered (Err e)
  value_refused e told missing kept same = record {
    value = tt;
    marked = tt;
    around = tt;
    step = tt;
    detached = tt;
    named = tt;
    child = tt;
    in_document = tt;
    handles = nodes_stay (nodes_of old) (nodes_of new) (stay_kept (nodes_of old) (nodes_of new) kept);
    error = told;
    missing = missing;
    memory = λ o. value_for_memory {T = ℕ} o (nodes_of old) old.tree.tree (is_of shape) p.number held.0 is (Err e) told;
    kept = kept;
    document = same;
  }
