-- The document's value, as an object or an array: what the calls say that find it or set it.
use Rattle.std.proofs.Common.{◌≡◌, ℕ, Option, Some, None, Ok, IfSome, option_map, refl}
use Rattle.jsonc_text.specs.declared.edit.Shape.{Shape}
use Rattle.jsonc_layout.specs.nodes.Properties.{value_at}
use Rattle.jsonc_edit.specs.set.Shapes.{empty_of, is_of}
use Rattle.jsonc_cst.specs.declared.cst.CstRootNode.{CstRootNode}
use Rattle.jsonc_cst.specs.declared.cst.node.CstNode.{CstNode}
use Rattle.jsonc_cst.specs.Document.{nodes_of, HasNode}
use Rattle.jsonc_cst.specs.Nodes.{number_of}
use Rattle.jsonc_cst.specs.Readings.{value_under}
use Rattle.jsonc_cst.specs.typed.SetCalls.{IsRootCreated, IsRootEnsured}
use Rattle.jsonc_cst.specs.typed.Setting.{FindsOrCreates, FindsOrSets}
use Rattle.jsonc_cst.proofs.lemmas.typed.Around.{replaced_around}
use Rattle.jsonc_cst.proofs.lemmas.typed.Found.{created_found, set_found, stands_as}
use Rattle.jsonc_cst.proofs.lemmas.typed.HandlesKept.{nodes_stay}
use Rattle.jsonc_cst.proofs.lemmas.typed.Marked.{replaced_marked}
use Rattle.jsonc_cst.proofs.lemmas.typed.Roots.{other_replaced, stay_created, stay_found}
use Rattle.jsonc_cst.proofs.lemmas.typed.Steps.{created_step, set_step}

module _ {A T : Type 0} (old new : CstRootNode A) (shape : Shape) (node : T → CstNode) where
  -- the number of what is answered
  abbrev number : Option T → Option ℕ
  number answer = option_map (λ x. number_of (node x)) answer

  value_if : (answer : Option T) → FindsOrCreates (nodes_of old) (nodes_of new) shape (number answer) → IfSome answer (λ x. HasNode new (node x))
      → IfSome answer (λ x. value_under new 0 ≡ Some (node x))
  value_if None found there = tt
  value_if (Some x) found there =
      stands_as (nodes_of new) (number_of (node x)) (node x)
      (created_found (is_of shape) (empty_of shape) (nodes_of old) (nodes_of new) old.tree.tree new.tree.tree (value_at (nodes_of old) 0) (number_of (node x)) refl found)
      refl there

  pub root_created : (answer : Option T) → FindsOrCreates (nodes_of old) (nodes_of new) shape (number answer) → IfSome answer (λ x. HasNode new (node x))
      → IsRootCreated old new shape node (Ok answer)
  root_created answer found there = record {
    value = found;
    step = created_step (nodes_of old) (nodes_of new) old.tree.tree new.tree.tree shape (number answer) found;
    is_value = value_if answer found there;
    in_document = there;
    handles = nodes_stay (nodes_of old) (nodes_of new) (stay_created (is_of shape) (empty_of shape) (nodes_of old) (nodes_of new) (value_at (nodes_of old) 0) (number answer) found);
    memory = tt;
    oom_only_if = tt;
    kept = tt;
    document = tt;
  }

  pub root_ensured : (x : T) → FindsOrSets (nodes_of old) (nodes_of new) shape (number_of (node x)) → HasNode new (node x) → IsRootEnsured old new shape node (Ok x)
  root_ensured x found there =
      let m : ℕ = number_of (node x) in
      let replaced = other_replaced (is_of shape) (empty_of shape) (nodes_of old) (nodes_of new) (value_at (nodes_of old) 0) m found in
      record {
        value = found;
        marked = λ n was other. replaced_marked (nodes_of old) (nodes_of new) (empty_of shape) old.tree.tree n m (replaced n was other);
        around = λ n was other. replaced_around (nodes_of old) (nodes_of new) (empty_of shape) old.tree.tree n m (replaced n was other);
        step = set_step (nodes_of old) (nodes_of new) old.tree.tree new.tree.tree shape m found;
        is_value = stands_as (nodes_of new) m (node x) (set_found (is_of shape) (empty_of shape) (nodes_of old) (nodes_of new) old.tree.tree new.tree.tree (value_at (nodes_of old) 0) m refl found) refl there;
        in_document = there;
        handles = nodes_stay (nodes_of old) (nodes_of new) (stay_found (is_of shape) (empty_of shape) (nodes_of old) (nodes_of new) (value_at (nodes_of old) 0) m found);
        memory = tt;
        oom_only_if = tt;
        kept = tt;
        document = tt;
      }
