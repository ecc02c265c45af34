use Rattle.std.proofs.Common.{ℕ, length, min, ap, ◌∙◌}
use Rattle.jsonc_layout.specs.input.Views.{plain}
use Rattle.jsonc_tree.specs.Tree.{content_at}
use Rattle.jsonc_layout.specs.nodes.Siblings.{elements_at}
use Rattle.jsonc_edit.specs.Paths.{IsElementOf}
use Rattle.jsonc_insert.specs.Inserted.{ElementPut}
use Rattle.jsonc_cst.specs.Nodes.{number_of}
use Rattle.jsonc_cst.proofs.lemmas.typed.InsertedElements.{put_at_place, put_element, put_for_memory, put_others, put_stays, put_there}
use Rattle.jsonc_run.proofs.DetachedNodes.{row_elsewhere}
use Rattle.jsonc_cst.proofs.lemmas.typed.PropertyValues.{held_array}
use Rattle.jsonc_cst.proofs.lemmas.typed.HandlesKept.{as_typed, nodes_stay, stay_kept}
use Rattle.jsonc_cst.proofs.lemmas.typed.Steps.{inserted_step}
use Rattle.jsonc_layout.proofs.lemmas.from_input.Texts.{of_texts}
use Rattle.jsonc_cst.proofs.cst.node.CstArray.insert.Goals as goal

pub insert_element-requires-clause-array : goal.insert_element-requires-clause-array
insert_element-requires-clause-array g c =
    let old = c.args.doc.now.tree.nodes in
    ap (content_at old) (c.number-number.ensures ∙ ap number_of c.node.ensures) ∙ held_array old c.args.self c.requires

pub node_at-requires : goal.node_at-requires
node_at-requires g c =
    let same = c.number-number.ensures ∙ ap number_of c.node.ensures in
    put_there c.args.doc.now.tree.nodes c.insert_element.new.tree.nodes c.args.self.number c.args.index (plain c.args.value) c.in-Ok.element c.args.doc.now.tree.tree c.requires.0
    (rw same at c.in-Ok.ensures.brackets) (rw same at c.in-Ok.ensures.put)

pub returns-in-Ok : goal.returns-in-Ok
returns-in-Ok g c =
    let old = c.args.doc.now.tree.nodes in
    let tree = c.args.doc.now.tree.tree in
    let new = c.insert_element.new.tree.nodes in
    let n = c.args.self.number in
    let i = c.args.index in
    let v = plain c.args.value in
    let m = c.in-Ok.element in
    let same = c.number-number.ensures ∙ ap number_of c.node.ensures in
    let brackets = rw same at c.in-Ok.ensures.brackets in
    let put = rw same at c.in-Ok.ensures.put in
    let placed = put_at_place old new n i v m brackets put in
    let array = held_array old c.args.self c.requires in
    let last : ℕ = min i (length (elements_at old n)) in
    record {
      put = as_typed (λ (k : ℕ). ElementPut old new n last v k) new m c.node_at.result c.node_at.ensures.node placed;
      element = as_typed (λ (k : ℕ). IsElementOf new n last k) new m c.node_at.result c.node_at.ensures.node (put_element old new n i v m tree c.requires.0 brackets put);
      step = inserted_step old new tree put.tree n i m v (of_texts _ c.args.value) put array;
      others = put_others old new n i v m tree c.requires.0 brackets put;
      detached = row_elsewhere old tree put.ready new n _ _ put.row put.tree put.prepared.keeps put.put;
      error = tt;
      memory = λ o. tt;
      in_document = c.node_at.ensures.in_document;
      handles = nodes_stay old new (put_stays old new n i v m tree c.requires.0 brackets put);
      kept = tt;
      document = tt;
    }

pub returns : goal.returns
returns g c =
    let old = c.args.doc.now.tree.nodes in
    let new = c.insert_element.new.tree.nodes in
    let told = rw (c.number-number.ensures ∙ ap number_of c.node.ensures) at c.in-Err.ensures.error in
    record {
      put = tt;
      element = tt;
      step = tt;
      others = tt;
      detached = tt;
      error = told;
      memory = λ o. put_for_memory old new c.args.self.number (plain c.args.value) c.args.doc.now.tree.tree (held_array old c.args.self c.requires) o c.in-Err.error told;
      in_document = tt;
      handles = nodes_stay old new (stay_kept old new c.in-Err.ensures.kept);
      kept = c.in-Err.ensures.kept;
      document = c.in-Err.ensures.document;
    }
