use Rattle.std.proofs.Common.{refl, subst, sym}
use Rattle.jsonc_text.specs.Plain.{array, no_items}
use Rattle.jsonc_text.specs.declared.edit.Shape.TheVariants.{Array}
use Rattle.jsonc_tree.specs.Content.{Content}
use Rattle.jsonc_layout.specs.nodes.Properties.{value_at}
use Rattle.jsonc_edit.specs.set.Kinds.{is_array}
use Rattle.jsonc_cst.specs.Nodes.{array_node}
use Rattle.jsonc_cst.specs.typed.Setting.{FindsOrSets}
use Rattle.jsonc_cst.proofs.lemmas.typed.RootShapes.{root_ensured}
use Rattle.jsonc_cst.proofs.lemmas.typed.Roots.{set_is, array_is}
use Rattle.jsonc_cst.proofs.cst.CstRootNode.array_value_or_set.Goals as goal

pub array_at-requires : goal.array_at-requires
array_at-requires g c =
    let old = c.args.self.now.tree.nodes in
    let new = c.root_value_or_set.new.tree.nodes in
    set_is is_array (array no_items) Content.array (λ l. refl) array_is old new (value_at old 0) c.in_ok-number.number c.in_ok-number.ensures.value

pub returns : goal.returns
returns g c =
    root_ensured c.args.self.now _ Array array_node c.array_at.result
    (subst (FindsOrSets c.args.self.now.tree.nodes c.root_value_or_set.new.tree.nodes Array) (sym c.array_at.ensures.number) c.in_ok-number.ensures.value)
    c.array_at.ensures.in_document
