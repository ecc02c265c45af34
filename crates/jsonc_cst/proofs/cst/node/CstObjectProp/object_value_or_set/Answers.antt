use Rattle.std.proofs.Common.{refl, ap, subst, sym, ◌∙◌}
use Rattle.jsonc_text.specs.Plain.{object, no_members}
use Rattle.jsonc_text.specs.declared.edit.Shape.TheVariants.{Object}
use Rattle.jsonc_tree.specs.Content.{Content}
use Rattle.jsonc_tree.specs.Tree.{content_at}
use Rattle.jsonc_layout.specs.nodes.Properties.{value_at}
use Rattle.jsonc_edit.specs.set.Kinds.{is_object}
use Rattle.jsonc_cst.specs.Nodes.{number_of, object_node}
use Rattle.jsonc_cst.specs.typed.Values.{FindsOrSetsHeld}
use Rattle.jsonc_cst.proofs.lemmas.typed.HeldShapes.{value_ensured, value_refused}
use Rattle.jsonc_cst.proofs.lemmas.typed.PropertyValues.{found_is, held_property}
use Rattle.jsonc_cst.proofs.lemmas.typed.Roots.{object_is}
use Rattle.jsonc_cst.proofs.cst.node.CstObjectProp.object_value_or_set.Goals as goal

pub property_value_or_set-requires-clause-property : goal.property_value_or_set-requires-clause-property
property_value_or_set-requires-clause-property g c =
    let old = c.args.doc.now.tree.nodes in
    ap (content_at old) (c.number-number.ensures ∙ ap number_of c.node.ensures) ∙ held_property old c.args.self c.requires

pub object_at-requires : goal.object_at-requires
object_at-requires g c =
    let old = c.args.doc.now.tree.nodes in
    let p = c.number-number.result in
    found_is is_object (object no_members) Content.object (λ l. refl) object_is old c.property_value_or_set.new.tree.nodes p (value_at old p) c.in-Ok.object c.in-Ok.ensures.value

pub returns-in-Ok : goal.returns-in-Ok
returns-in-Ok g c =
    let old = c.args.doc.now.tree.nodes in
    let new = c.property_value_or_set.new.tree.nodes in
    let p = c.args.self.number in
    let same = c.number-number.ensures ∙ ap number_of c.node.ensures in
    let found = rw same at c.in-Ok.ensures.value in
    value_ensured c.args.doc.now _ Object c.args.self c.requires object_node c.object_at.result (rw same at c.in-Ok.ensures.named)
    (subst (λ k. FindsOrSetsHeld old new Object p k) (sym c.object_at.ensures.number) found) c.object_at.ensures.in_document

pub returns-in-Err : goal.returns-in-Err
returns-in-Err g c =
    let same = c.number-number.ensures ∙ ap number_of c.node.ensures in
    value_refused c.args.doc.now _ Object c.args.self c.requires object_node c.in-Err.error (rw same at c.in-Err.ensures.error) (rw same at c.in-Err.ensures.missing) c.in-Err.ensures.kept c.in-Err.ensures.document
