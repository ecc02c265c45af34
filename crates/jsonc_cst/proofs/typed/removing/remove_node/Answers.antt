use Rattle.std.proofs.Common.{◌≡◌, OnOk, IfErr, refl, ap, subst, sym, ◌∙◌}
use Rattle.jsonc_edit.proofs.lemmas.set.FirstValueSet.{leaves_bare}
use Rattle.jsonc_cst.specs.Nodes.{number_of, typed_at}
use Rattle.jsonc_cst.specs.declared.typed.removing.Removal.{Removal}
use Rattle.jsonc_cst.specs.declared.typed.removing.Removal.TheVariants.{Clearing, OfComment, OfElement, OfLeaf}
use Rattle.jsonc_cst.specs.typed.Removing.{removal_of, IsKeptBy, IsLooseFor, IsDetachedBy, IsTakenBy, IsWrittenBy, StaysAround, KeepsDocumentBy}
use Rattle.jsonc_cst.specs.typed.Steps.{IsRemoving}
use Rattle.jsonc_cst.proofs.lemmas.typed.DetachedNodes.{if_comment, if_element}
use Rattle.jsonc_cst.proofs.lemmas.typed.RemovedElements.{element_alone, element_written}
use Rattle.jsonc_cst.proofs.lemmas.typed.HandlesKept.{nodes_stay, stay_either, stay_element, stay_spliced}
use Rattle.jsonc_cst.proofs.lemmas.typed.Detached.{if_nobodys, if_taken_nobodys}
use Rattle.jsonc_cst.proofs.lemmas.typed.Steps.{cleared_step, comment_step, element_step, ok_then}
use Rattle.jsonc_cst.proofs.lemmas.typed.CompleteNodes.{comment_for_memory, comment_kept, element_for_memory}
use Rattle.jsonc_cst.proofs.typed.removing.remove_node.Goals as goal

pub returns-in-Clearing : goal.returns-in-Clearing
returns-in-Clearing g c =
    let old = c.args.doc.now.tree.nodes in
    let tree = c.args.doc.now.tree.tree in
    let new = c.clear_root.new.tree.nodes in
    let after = c.clear_root.new.tree.tree in
    let node = g.N.TypedNode.node_of c.args.node in
    let n = number_of node in
    let here : (P : Removal → Type 0) → P Clearing → P (removal_of node) = λ P x. subst P (sym c.in-Clearing.is ∙ c.removal_of.ensures ∙ ap removal_of c.node-node.ensures) x in
    record {
      removed = here (λ r. IsTakenBy r old new n) c.clear_root.ensures.taken;
      written = λ o. here (λ r. IsWrittenBy r o old new n) (leaves_bare o new after c.clear_root.ensures.cleared);
      around = λ o. here (λ r. StaysAround r o old new n) tt;
      step = here (λ r. IsRemoving old new r n) (cleared_step old new tree after c.clear_root.ensures.taken);
      detached = here (λ r. KeepsDocumentBy r old new n) tt;
      gone = here (λ r. IsDetachedBy r new n) tt;
      untouched = here (λ r. IsLooseFor r old n → new ≡ old) (λ loose. absurd loose);
      handles = nodes_stay old new (stay_spliced old new _ _ _ _ c.clear_root.ensures.taken);
      error = tt;
      memory = λ o. tt;
      kept = tt;
      document = tt;
    }

pub returns-in-OfComment : goal.returns-in-OfComment
returns-in-OfComment g c =
    let old = c.args.doc.now.tree.nodes in
    let tree = c.args.doc.now.tree.tree in
    let new = c.remove_comment.new.tree.nodes in
    let after = c.remove_comment.new.tree.tree in
    let node = g.N.TypedNode.node_of c.args.node in
    let n = number_of node in
    let here : (P : Removal → Type 0) → P OfComment → P (removal_of node) = λ P x. subst P (sym c.in-OfComment.is ∙ c.removal_of.ensures ∙ ap removal_of c.node-node.ensures) x in
    let same : c.number-number.result ≡ n = c.number-number.ensures ∙ ap number_of c.node-node.ensures in
    let result = c.remove_comment.result in
    let removed = rw same at c.remove_comment.ensures.removed in
    let untouched = rw same at c.remove_comment.ensures.untouched in
    let how : removal_of (typed_at old n) ≡ OfComment = ap removal_of c.requires.1 ∙ here (λ r. r ≡ OfComment) refl in
    record {
      removed = here (λ r. OnOk result (IsTakenBy r old new n)) removed;
      written = λ o. here (λ r. OnOk result (IsWrittenBy r o old new n)) (rw same at (c.remove_comment.ensures.written o));
      around = λ o. here (λ r. OnOk result (StaysAround r o old new n)) (rw same at c.remove_comment.ensures.around);
      step = here (λ r. OnOk result (IsRemoving old new r n)) (ok_then result (λ taken. comment_step old new tree after n taken how) removed);
      detached = here (λ r. OnOk result (KeepsDocumentBy r old new n)) (if_comment old new tree after n result untouched removed);
      gone = here (λ r. OnOk result (IsDetachedBy r new n)) (if_taken_nobodys old new n result tree after untouched removed);
      untouched = here (λ r. IsLooseFor r old n → new ≡ old) untouched;
      handles = nodes_stay old new (stay_either old new n result tree untouched removed c.remove_comment.ensures.kept);
      error = here (λ r. IfErr result (IsKeptBy r old n)) (comment_kept old n result c.remove_comment.ensures.memory (rw same at c.remove_comment.ensures.oom_only_if));
      memory = λ o. comment_for_memory o old n result c.remove_comment.ensures.memory;
      kept = c.remove_comment.ensures.kept;
      document = c.remove_comment.ensures.document;
    }

pub returns-in-OfElement : goal.returns-in-OfElement
returns-in-OfElement g c =
    let old = c.args.doc.now.tree.nodes in
    let tree = c.args.doc.now.tree.tree in
    let new = c.remove.new.tree.nodes in
    let after = c.remove.new.tree.tree in
    let node = g.N.TypedNode.node_of c.args.node in
    let n = number_of node in
    let here : (P : Removal → Type 0) → P OfElement → P (removal_of node) = λ P x. subst P (sym c.in-OfElement.is ∙ c.removal_of.ensures ∙ ap removal_of c.node-node.ensures) x in
    let same : c.number-number.result ≡ n = c.number-number.ensures ∙ ap number_of c.node-node.ensures in
    let result = c.remove.result in
    let taken = rw same at c.remove.ensures.taken in
    let untouched = rw same at c.remove.ensures.untouched in
    let told = rw same at c.remove.ensures.error in
    let how : removal_of (typed_at old n) ≡ OfElement = ap removal_of c.requires.1 ∙ here (λ r. r ≡ OfElement) refl in
    record {
      removed = here (λ r. OnOk result (IsTakenBy r old new n)) taken;
      written = λ o. here (λ r. OnOk result (IsWrittenBy r o old new n)) (element_written o old new n tree after result taken);
      around = λ o. here (λ r. OnOk result (StaysAround r o old new n)) (element_alone o old new n tree after result taken);
      step = here (λ r. OnOk result (IsRemoving old new r n)) (ok_then result (λ is. element_step old new tree after n is how) taken);
      detached = here (λ r. OnOk result (KeepsDocumentBy r old new n)) (if_element old new tree after n result untouched taken);
      gone = here (λ r. OnOk result (IsDetachedBy r new n)) (if_nobodys new n result after (rw same at c.remove.ensures.alone));
      untouched = here (λ r. IsLooseFor r old n → new ≡ old) untouched;
      handles = nodes_stay old new (stay_element old new n result untouched taken c.remove.ensures.kept);
      error = here (λ r. IfErr result (IsKeptBy r old n)) told;
      memory = λ o. element_for_memory o old tree n result told;
      kept = c.remove.ensures.kept;
      document = c.remove.ensures.document;
    }

pub returns-in-OfLeaf : goal.returns-in-OfLeaf
returns-in-OfLeaf g c =
    let old = c.args.doc.now.tree.nodes in
    let new = c.remove_alone.new.tree.nodes in
    let node = g.N.TypedNode.node_of c.args.node in
    let n = number_of node in
    let here : (P : Removal → Type 0) → P OfLeaf → P (removal_of node) = λ P x. subst P (sym c.in-OfLeaf.is ∙ c.removal_of.ensures ∙ ap removal_of c.node-node.ensures) x in
    let same : c.number-number.result ≡ n = c.number-number.ensures ∙ ap number_of c.node-node.ensures in
    record {
      removed = here (λ r. IsTakenBy r old new n) (rw same at c.remove_alone.ensures.taken);
      written = λ o. here (λ r. IsWrittenBy r o old new n) tt;
      around = λ o. here (λ r. StaysAround r o old new n) tt;
      step = here (λ r. IsRemoving old new r n) tt;
      detached = here (λ r. KeepsDocumentBy r old new n) (rw same at c.remove_alone.ensures.detached);
      gone = here (λ r. IsDetachedBy r new n) (rw same at c.remove_alone.ensures.gone);
      untouched = here (λ r. IsLooseFor r old n → new ≡ old) (rw same at c.remove_alone.ensures.untouched);
      handles = c.remove_alone.ensures.handles;
      error = tt;
      memory = λ o. tt;
      kept = tt;
      document = tt;
    }
