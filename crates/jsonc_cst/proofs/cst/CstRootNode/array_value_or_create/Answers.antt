use Rattle.std.proofs.Common.{None, Some, refl, ap, subst, sym, ◌∙◌}
use Rattle.jsonc_text.specs.Plain.{array, no_items}
use Rattle.jsonc_text.specs.declared.edit.Shape.TheVariants.{Array}
use Rattle.jsonc_tree.specs.Content.{Content}
use Rattle.jsonc_layout.specs.nodes.Properties.{value_at}
use Rattle.jsonc_edit.specs.set.Kinds.{is_array, FoundOrCreated}
use Rattle.jsonc_edit.proofs.lemmas.set.PropertyKinds.{none_found}
use Rattle.jsonc_cst.specs.Nodes.{array_node}
use Rattle.jsonc_cst.specs.typed.Setting.{FindsOrCreates}
use Rattle.jsonc_cst.proofs.lemmas.typed.RootShapes.{root_created}
use Rattle.jsonc_cst.proofs.lemmas.typed.Roots.{created_is, array_is}
use Rattle.jsonc_cst.proofs.cst.CstRootNode.array_value_or_create.Goals as goal

pub array_at-requires : goal.array_at-requires
array_at-requires g c =
    let old = c.args.self.now.tree.nodes in
    let new = c.root_value_or_create.new.tree.nodes in
    created_is is_array (array no_items) Content.array (λ l. refl) array_is old new (value_at old 0) c.in-Some.number
    (subst (λ o. FoundOrCreated is_array (array no_items) old new (value_at old 0) o) c.in-Some.is c.in_ok-number.ensures.value)

pub returns : goal.returns
returns g c =
    root_created c.args.self.now _ Array array_node (Some c.array_at.result)
    (subst (FindsOrCreates c.args.self.now.tree.nodes c.root_value_or_create.new.tree.nodes Array) (c.in-Some.is ∙ ap Some (sym c.array_at.ensures.number)) c.in_ok-number.ensures.value)
    c.array_at.ensures.in_document

pub returns-in_default : goal.returns-in_default
returns-in_default g c =
    root_created c.args.self.now _ Array array_node None
    (subst (FindsOrCreates c.args.self.now.tree.nodes c.root_value_or_create.new.tree.nodes Array) (none_found c.in_ok-number.field-0 c.in_default.not-Some) c.in_ok-number.ensures.value) tt
