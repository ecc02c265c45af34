use Rattle.std.proofs.Common.{None, Some, refl, ap, subst, sym, ◌∙◌}
use Rattle.jsonc_text.specs.Plain.{object, no_members}
use Rattle.jsonc_text.specs.declared.edit.Shape.TheVariants.{Object}
use Rattle.jsonc_tree.specs.Content.{Content}
use Rattle.jsonc_layout.specs.nodes.Properties.{value_at}
use Rattle.jsonc_edit.specs.set.Kinds.{is_object, FoundOrCreated}
use Rattle.jsonc_edit.proofs.lemmas.set.PropertyKinds.{none_found}
use Rattle.jsonc_cst.specs.Nodes.{object_node}
use Rattle.jsonc_cst.specs.typed.Setting.{FindsOrCreates}
use Rattle.jsonc_cst.proofs.lemmas.typed.RootShapes.{root_created}
use Rattle.jsonc_cst.proofs.lemmas.typed.Roots.{created_is, object_is}
use Rattle.jsonc_cst.proofs.cst.CstRootNode.object_value_or_create.Goals as goal

pub object_at-requires : goal.object_at-requires
object_at-requires g c =
    let old = c.args.self.now.tree.nodes in
    let new = c.root_value_or_create.new.tree.nodes in
    created_is is_object (object no_members) Content.object (λ l. refl) object_is old new (value_at old 0) c.in-Some.number
    (subst (λ o. FoundOrCreated is_object (object no_members) old new (value_at old 0) o) c.in-Some.is c.in_ok-number.ensures.value)

pub returns : goal.returns
returns g c =
    root_created c.args.self.now _ Object object_node (Some c.object_at.result)
    (subst (FindsOrCreates c.args.self.now.tree.nodes c.root_value_or_create.new.tree.nodes Object) (c.in-Some.is ∙ ap Some (sym c.object_at.ensures.number)) c.in_ok-number.ensures.value)
    c.object_at.ensures.in_document

pub returns-in_default : goal.returns-in_default
returns-in_default g c =
    root_created c.args.self.now _ Object object_node None
    (subst (FindsOrCreates c.args.self.now.tree.nodes c.root_value_or_create.new.tree.nodes Object) (none_found c.in_ok-number.field-0 c.in_default.not-Some) c.in_ok-number.ensures.value) tt
