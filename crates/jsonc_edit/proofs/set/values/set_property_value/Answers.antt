use Rattle.std.proofs.Common.{sym, ◌∙◌}
use Rattle.jsonc_layout.specs.input.Views.{plain}
use Rattle.jsonc_tree.specs.Tree.{parent_at}
use Rattle.jsonc_layout.specs.nodes.Properties.{value_at}
use Rattle.jsonc_edit.specs.Written.{Writes}
use Rattle.jsonc_edit.proofs.lemmas.set.FirstValueMade.{has_parent, holds_of_found}
use Rattle.jsonc_edit.proofs.lemmas.set.PropertyValue.{held_child}
use Rattle.jsonc_edit.proofs.set.values.set_property_value.Goals as goal

pub replace_child-requires : goal.replace_child-requires
replace_child-requires g c =
    has_parent (parent_at c.args.tree.now.nodes c.in-Some.node) c.args.property
    (held_child c.args.tree.now.nodes c.args.tree.now.tree c.args.property c.in-Some.node c.requires.property (sym c.value_of.ensures.value ∙ c.in-Some.is))

pub returns-in-Some-clause-written : goal.returns-in-Some-clause-written
returns-in-Some-clause-written g c = λ p.
    holds_of_found (value_at c.args.tree.now.nodes c.args.property) c.in-Some.node (λ n m. Writes p c.args.tree.now.nodes c.replace_child.new.tree.nodes n m (plain c.args.value.now)) c.replace_child.result (sym c.value_of.ensures.value ∙ c.in-Some.is)
    (c.replace_child.ensures.written p)
