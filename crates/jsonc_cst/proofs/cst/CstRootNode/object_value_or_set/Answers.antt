use Rattle.std.proofs.Common.{refl, subst, sym}
use Rattle.jsonc_text.specs.Plain.{object, no_members}
use Rattle.jsonc_text.specs.declared.edit.Shape.TheVariants.{Object}
use Rattle.jsonc_tree.specs.Content.{Content}
use Rattle.jsonc_layout.specs.nodes.Properties.{value_at}
use Rattle.jsonc_edit.specs.set.Kinds.{is_object}
use Rattle.jsonc_cst.specs.Nodes.{object_node}
use Rattle.jsonc_cst.specs.typed.Setting.{FindsOrSets}
use Rattle.jsonc_cst.proofs.lemmas.typed.RootShapes.{root_ensured}
use Rattle.jsonc_cst.proofs.lemmas.typed.Roots.{set_is, object_is}
use Rattle.jsonc_cst.proofs.cst.CstRootNode.object_value_or_set.Goals as goal

pub object_at-requires : goal.object_at-requires
object_at-requires g c =
    let old = c.args.self.now.tree.nodes in
    let new = c.root_value_or_set.new.tree.nodes in
    set_is is_object (object no_members) Content.object (λ l. refl) object_is old new (value_at old 0) c.in_ok-number.number c.in_ok-number.ensures.value

pub returns : goal.returns
returns g c =
    root_ensured c.args.self.now _ Object object_node c.object_at.result
    (subst (FindsOrSets c.args.self.now.tree.nodes c.root_value_or_set.new.tree.nodes Object) (sym c.object_at.ensures.number) c.in_ok-number.ensures.value)
    c.object_at.ensures.in_document
