use Rattle.std.proofs.Common.{ℕ, length, min, chars, ap, sym, subst, ◌∙◌}
use Rattle.jsonc_layout.specs.input.Views.{plain}
use Rattle.jsonc_tree.specs.Tree.{content_at}
use Rattle.jsonc_layout.specs.nodes.Siblings.{elements_at}
use Rattle.jsonc_edit.specs.Paths.{IsElementOf}
use Rattle.jsonc_insert.specs.members.Inserted.{PropertyPut}
use Rattle.jsonc_cst.specs.Nodes.{number_of}
use Rattle.jsonc_run.proofs.DetachedNodes.{put_elsewhere}
use Rattle.jsonc_cst.proofs.lemmas.objects.InsertedProperties.{put_at_place, put_element, put_for_memory, put_others, put_property, put_stays, put_there}
use Rattle.jsonc_cst.proofs.lemmas.typed.PropertyValues.{held_object}
use Rattle.jsonc_cst.proofs.lemmas.typed.HandlesKept.{nodes_stay, stay_kept}
use Rattle.jsonc_cst.proofs.lemmas.objects.Steps.{inserted_step}
use Rattle.jsonc_layout.proofs.lemmas.from_input.Texts.{of_texts}
use Rattle.std.proofs.lemmas.Str.{scalars-chars}
use Rattle.jsonc_cst.proofs.cst.node.CstObject.insert.Goals as goal

pub insert_property-requires-clause-object : goal.insert_property-requires-clause-object
insert_property-requires-clause-object g c =
    let old = c.args.doc.now.tree.nodes in
    ap (content_at old) (c.number-number.ensures ∙ ap number_of c.node.ensures) ∙ held_object old c.args.self c.requires

pub property_at-requires-clause-in_tree : goal.property_at-requires-clause-in_tree
property_at-requires-clause-in_tree g c =
    let same = c.number-number.ensures ∙ ap number_of c.node.ensures in
    put_there c.args.doc.now.tree.nodes c.insert_property.new.tree.nodes c.args.self.number c.args.index (chars c.args.name.now) (plain c.args.value) c.in-Ok.property c.args.doc.now.tree.tree c.requires.0
    (rw same at c.in-Ok.ensures.brackets) (rw same at c.in-Ok.ensures.put)

pub property_at-requires-clause-property : goal.property_at-requires-clause-property
property_at-requires-clause-property g c =
    let same = c.number-number.ensures ∙ ap number_of c.node.ensures in
    put_property c.args.doc.now.tree.nodes c.insert_property.new.tree.nodes c.args.self.number c.args.index (chars c.args.name.now) (plain c.args.value) c.in-Ok.property c.args.doc.now.tree.tree c.requires.0
    (rw same at c.in-Ok.ensures.brackets) (rw same at c.in-Ok.ensures.put)

pub returns-in-Ok : goal.returns-in-Ok
returns-in-Ok g c =
    let old = c.args.doc.now.tree.nodes in
    let tree = c.args.doc.now.tree.tree in
    let new = c.insert_property.new.tree.nodes in
    let n = c.args.self.number in
    let i = c.args.index in
    let name = chars c.args.name.now in
    let v = plain c.args.value in
    let m = c.in-Ok.property in
    let same = c.number-number.ensures ∙ ap number_of c.node.ensures in
    let brackets = rw same at c.in-Ok.ensures.brackets in
    let put = rw same at c.in-Ok.ensures.put in
    let placed = put_at_place old new n i name v m tree c.requires.0 brackets put in
    let object = held_object old c.args.self c.requires in
    let last : ℕ = min i (length (elements_at old n)) in
    record {
      put = subst (λ (k : ℕ). PropertyPut old new n last name v k) (sym c.property_at.ensures.number) placed;
      property = subst (λ (k : ℕ). IsElementOf new n last k) (sym c.property_at.ensures.number) (put_element old new n i name v m tree c.requires.0 brackets put);
      step = inserted_step old new tree c.insert_property.new.tree.tree n name (scalars-chars c.args.name.now c.utf8.name) object i m v (of_texts _ c.args.value) put;
      others = put_others old new n i name v m tree c.requires.0 brackets put;
      detached = put_elsewhere old tree new n i name v m c.requires.0 put;
      error = tt;
      memory = λ o. tt;
      in_document = c.property_at.ensures.in_document;
      handles = nodes_stay old new (put_stays old new n i name v m tree c.requires.0 put);
      kept = tt;
      document = tt;
    }

pub returns : goal.returns
returns g c =
    let old = c.args.doc.now.tree.nodes in
    let new = c.insert_property.new.tree.nodes in
    let told = rw (c.number-number.ensures ∙ ap number_of c.node.ensures) at c.in-Err.ensures.error in
    record {
      put = tt;
      property = tt;
      step = tt;
      others = tt;
      detached = tt;
      error = told;
      memory = λ o. put_for_memory old new c.args.self.number (chars c.args.name.now) (plain c.args.value) c.args.doc.now.tree.tree (held_object old c.args.self c.requires) o c.in-Err.error told;
      in_document = tt;
      handles = nodes_stay old new (stay_kept old new c.in-Err.ensures.kept);
      kept = c.in-Err.ensures.kept;
      document = c.in-Err.ensures.document;
    }
