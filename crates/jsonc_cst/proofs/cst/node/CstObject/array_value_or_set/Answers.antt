use Rattle.std.proofs.Common.{◌≡◌, IfSome, Some, true, chars, ap, sym, subst, ◌∙◌}
use Rattle.std.proofs.lemmas.Str.{scalars-chars}
use Rattle.jsonc_tree.specs.Tree.{content_at}
use Rattle.jsonc_text.specs.declared.edit.Over.TheVariants.{Replace}
use Rattle.jsonc_text.specs.declared.edit.Shape.TheVariants.{Array}
use Rattle.jsonc_edit.specs.set.Shapes.{is_of}
use Rattle.jsonc_insert.specs.named.Named.{NamedEnsured}
use Rattle.jsonc_cst.specs.Nodes.{number_of, array_node}
use Rattle.jsonc_cst.specs.objects.Calls.{number_in, IsSaidOf}
use Rattle.jsonc_cst.proofs.lemmas.objects.NamedCalls.{named_ensured, named_refused}
use Rattle.jsonc_cst.proofs.lemmas.typed.PropertyValues.{held_object}
use Rattle.jsonc_cst.proofs.lemmas.typed.Roots.{array_is}
use Rattle.jsonc_cst.proofs.cst.node.CstObject.array_value_or_set.Goals as goal

pub ensure_property-requires-clause-object : goal.ensure_property-requires-clause-object
ensure_property-requires-clause-object g c =
    let old = c.args.doc.now.tree.nodes in
    ap (content_at old) (c.number-number.ensures ∙ ap number_of c.node.ensures) ∙ held_object old c.args.self c.requires

pub array_at-requires : goal.array_at-requires
array_at-requires g c =
    let new = c.ensure_property.new.tree.nodes in
    array_is (content_at new c.in-Ok-Some.array) (subst (λ a. IfSome a (λ m. is_of Array (content_at new m) ≡ true)) c.in-Ok-Some.field-0-is c.in-Ok-Some.ensures.shape)

pub returns-in-Ok-Some : goal.returns-in-Ok-Some
returns-in-Ok-Some g c =
    let ensured = rw (c.number-number.ensures ∙ ap number_of c.node.ensures) at c.in-Ok-Some.ensures.ensured in
    named_ensured c.args.doc.now _ Array Replace c.args.self c.requires (chars c.args.name.now) (number_in array_node) (IsSaidOf array_node) c.array_at.result (scalars-chars c.args.name.now c.utf8.name)
    (subst (NamedEnsured Array Replace c.args.doc.now.tree.nodes c.ensure_property.new.tree.nodes c.args.self.number (chars c.args.name.now)) (c.in-Ok-Some.field-0-is ∙ ap Some (sym c.array_at.ensures.number)) ensured)
    c.array_at.ensures.in_document

pub returns-in-Err : goal.returns-in-Err
returns-in-Err g c =
    named_refused c.args.doc.now _ Array Replace c.args.self c.requires (chars c.args.name.now) (number_in array_node) (IsSaidOf array_node) c.in-Err.error
    (rw (c.number-number.ensures ∙ ap number_of c.node.ensures) at c.in-Err.ensures.error) c.in-Err.ensures.kept c.in-Err.ensures.document
