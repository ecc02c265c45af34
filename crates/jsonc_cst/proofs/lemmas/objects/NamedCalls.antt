-- Values of properties by name: what the calls say that find them or set them.
use Rattle.std.proofs.Common.{◌≡◌, ℕ, List, Option, Ok, Err}
use Rattle.jsonc_text.specs.declared.edit.EditError.{EditError}
use Rattle.jsonc_text.specs.declared.edit.Over.{Over}
use Rattle.jsonc_text.specs.declared.edit.Shape.{Shape}
use Rattle.jsonc_tree.specs.Content as content
use Rattle.jsonc_tree.specs.Tree.{content_at}
use Rattle.jsonc_layout.specs.from_input.Texts.{IsCharacters}
use Rattle.jsonc_insert.specs.named.Named.{EnsureError, NamedEnsured}
use Rattle.jsonc_cst.specs.declared.cst.CstRootNode.{CstRootNode}
use Rattle.jsonc_cst.specs.declared.cst.node.CstNode.{CstNode}
use Rattle.jsonc_cst.specs.declared.cst.node.CstObject.{CstObject}
use Rattle.jsonc_cst.specs.Document.{nodes_of, tree_of, HasNode}
use Rattle.jsonc_cst.specs.Nodes.{object_node}
use Rattle.jsonc_cst.specs.objects.Calls.{IsNamedEnsured}
use Rattle.jsonc_cst.specs.typed.Edits.{Unchanged}
use Rattle.jsonc_cst.proofs.lemmas.objects.ByName.{named_elsewhere, named_for_memory, named_stays}
use Rattle.jsonc_cst.proofs.lemmas.objects.Steps.{ensured_step}
use Rattle.jsonc_cst.proofs.lemmas.typed.HandlesKept.{nodes_stay, stay_kept}
use Rattle.jsonc_cst.proofs.lemmas.typed.PropertyValues.{held_object}

module _ {A T : Type 0} (old new : CstRootNode A) (shape : Shape) (how : Over) (x : CstObject) (held : HasNode old (object_node x)) (name : List ℕ)
    (number : T → Option ℕ) (is_said : T → (CstNode → Type 0) → Type 0) where
  is : content_at (nodes_of old) x.number ≡ content.object
  is = held_object (nodes_of old) x held

  pub named_ensured : (a : T) → IsCharacters name → NamedEnsured shape how (nodes_of old) (nodes_of new) x.number name (number a) → is_said a (HasNode new)
      → IsNamedEnsured old new shape how (object_node x) name number is_said (Ok a)
  named_ensured a texts ensured there = record {
    ensured = ensured;
    step = ensured_step (nodes_of old) (nodes_of new) old.tree.tree new.tree.tree x.number name texts is shape how (number a) ensured;
    detached = named_elsewhere (nodes_of old) (nodes_of new) x.number name shape old.tree.tree new.tree.tree held.0 how (number a) ensured;
    error = tt;
    memory = λ o. tt;
    in_document = there;
    handles = nodes_stay (nodes_of old) (nodes_of new) (named_stays (nodes_of old) (nodes_of new) x.number name shape how old.tree.tree held.0 (number a) ensured);
    kept = tt;
    document = tt;
  }

  -- why it was not, and then every node is as it was
  pub named_refused : (e : EditError) → EnsureError shape how (nodes_of old) x.number name e → Unchanged old new → tree_of new ≡ tree_of old
      → IsNamedEnsured old new shape how (object_node x) name number is_said (Err e)
  named_refused e told kept same = record {
    ensured = tt;
    step = tt;
    detached = tt;
    error = told;
    memory = λ o. named_for_memory (nodes_of old) (nodes_of new) x.number name shape how old.tree.tree is o e told;
    in_document = tt;
    handles = nodes_stay (nodes_of old) (nodes_of new) (stay_kept (nodes_of old) (nodes_of new) kept);
    kept = kept;
    document = same;
  }
