-- A property was given another name, or was refused it: what the call says.
use Rattle.std.proofs.Common.{◌≡◌, ℕ, ◌<◌, false, true, List, length, Ok, Err, refl, sym, subst, ◌∙◌}
use Rattle.jsonc_text.specs.Options.{Options}
use Rattle.jsonc_text.specs.Plain.{Plain}
use Rattle.jsonc_text.specs.declared.edit.EditError.{EditError}
use Rattle.jsonc_text.specs.declared.edit.EditError.TheVariants.{OutOfMemory, MissingBrackets, MissingName, NoSuchPlace, InvalidComment, LineContinues, NotAnEntry, NestingDepthExceeded}
use Rattle.jsonc_tree.specs.Content.{property}
use Rattle.jsonc_tree.specs.Tree.{Node, content_at, IsTree}
use Rattle.jsonc_layout.specs.from_input.Texts.{IsCharacters}
use Rattle.jsonc_layout.specs.nodes.Properties.{lacks_name_at}
use Rattle.jsonc_edit.specs.set.Names.{IsRenamed, RenameError}
use Rattle.jsonc_edit.proofs.Elements.{Some_same}
use Rattle.jsonc_edit.proofs.lemmas.set.RenamedPlace.{has_new_name}
use Rattle.jsonc_edit.proofs.lemmas.set.RenamedProperty.{is_marked, stays_around}
use Rattle.jsonc_edit.proofs.lemmas.set.Renaming.{named_child}
use Rattle.jsonc_run.proofs.DetachedNodes.{out_down, raw_elsewhere}
use Rattle.jsonc_cst.specs.declared.cst.CstRootNode.{CstRootNode}
use Rattle.jsonc_cst.specs.declared.cst.node.CstNode.{CstNode}
use Rattle.jsonc_cst.specs.declared.cst.node.CstObjectProp.{CstObjectProp}
use Rattle.jsonc_cst.specs.Document.{nodes_of, HasNode}
use Rattle.jsonc_cst.specs.Nodes.{number_of, object_prop_node}
use Rattle.jsonc_cst.specs.typed.Edits.{IsDetached, KeepsDocumentOf}
use Rattle.jsonc_cst.specs.typed.Removing.{OnlyOutOfMemory}
use Rattle.jsonc_cst.specs.typed.Renaming.{IsRenaming, NameIsDetached}
use Rattle.jsonc_cst.proofs.lemmas.typed.CompleteNodes.{value_for_memory}
use Rattle.jsonc_cst.proofs.lemmas.typed.Detached.{raw_nobodys}
use Rattle.jsonc_cst.proofs.lemmas.typed.HandlesKept.{nodes_stay, raw_there, stay_raw, stay_same}
use Rattle.jsonc_cst.proofs.lemmas.typed.PropertyValues.{held_property}
use Rattle.jsonc_cst.proofs.lemmas.typed.Steps.{renamed_step}

-- the new name is there
pub name_there : (old new : List Node) (p m : ℕ) (name : List ℕ) → IsRenamed old new p name m → m < length new
name_there old new p m name given = raw_there old new given.0 (Plain.string name) m given.2

module _ (old new : List Node) (tree : IsTree old) (after : IsTree new) (p m : ℕ) (name : List ℕ) (given : IsRenamed old new p name m) where
  old_name_gone : NameIsDetached old new p
  old_name_gone n told = subst (IsDetached new) (Some_same given.0 n (sym given.1 ∙ told)) (raw_nobodys old new given.0 m tree after (Plain.string name) given.2)

  elsewhere : KeepsDocumentOf old new p
  elsewhere out = raw_elsewhere old tree new given.0 m (Plain.string name) after given.2 (out_down old tree given.0 p (named_child old tree p given.0 given.1) out)

-- neither a name nor a colon is missing in a sound document
only_memory : (o : Options) (ns : List Node) → IsTree ns → (p : ℕ) → p < length ns → content_at ns p ≡ property → (e : EditError) → RenameError ns p e → OnlyOutOfMemory o ns p e
only_memory o ns tree p there is OutOfMemory told = λ sound over. refl
only_memory o ns tree p there is MissingName told = value_for_memory {T = ℕ} o ns tree (λ c. true) p there is (Err MissingName) told
only_memory o ns tree p there is MissingBrackets told = absurd told
only_memory o ns tree p there is NoSuchPlace told = absurd told
only_memory o ns tree p there is InvalidComment told = absurd told
only_memory o ns tree p there is LineContinues told = absurd told
only_memory o ns tree p there is NotAnEntry told = absurd told
only_memory o ns tree p there is NestingDepthExceeded told = absurd told

module _ {A : Type 0} (old new : CstRootNode A) (p : CstObjectProp) (held : HasNode old (object_prop_node p)) (name : List ℕ) where
  pub renamed : IsCharacters name → (x : CstNode) → IsRenamed (nodes_of old) (nodes_of new) p.number name (number_of x) → lacks_name_at (nodes_of old) p.number ≡ false → HasNode new x
      → IsRenaming old new (object_prop_node p) name (Ok x)
  renamed characters x given named there =
      let m : ℕ = number_of x in
      record {
        renamed = given;
        step = renamed_step (nodes_of old) (nodes_of new) old.tree.tree new.tree.tree p.number m name characters given (held_property (nodes_of old) p held);
        marked = λ n told over texts. is_marked (nodes_of old) (nodes_of new) p.number m name old.tree.tree given n told over texts;
        around = stays_around (nodes_of old) (nodes_of new) p.number m name old.tree.tree given;
        detached = elsewhere (nodes_of old) (nodes_of new) old.tree.tree new.tree.tree p.number m name given;
        gone = old_name_gone (nodes_of old) (nodes_of new) old.tree.tree new.tree.tree p.number m name given;
        named = named;
        is_name = has_new_name (nodes_of old) (nodes_of new) p.number m name old.tree.tree given;
        in_document = there;
        handles = nodes_stay (nodes_of old) (nodes_of new) (stay_raw (nodes_of old) (nodes_of new) given.0 (Plain.string name) m given.2);
        error = tt;
        memory = λ o. tt;
        untouched = tt;
      }

  pub refused : (e : EditError) → RenameError (nodes_of old) p.number e → nodes_of new ≡ nodes_of old → IsRenaming old new (object_prop_node p) name (Err e)
  refused e told same = record {
    renamed = tt;
    step = tt;
    marked = tt;
    around = tt;
    detached = tt;
    gone = tt;
    named = tt;
    is_name = tt;
    in_document = tt;
    handles = nodes_stay (nodes_of old) (nodes_of new) (stay_same (nodes_of old) (nodes_of new) same);
    error = told;
    memory = λ o. only_memory o (nodes_of old) old.tree.tree p.number held.0 (held_property (nodes_of old) p held) e told;
    untouched = same;
  }
