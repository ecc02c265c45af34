use Rattle.std.proofs.Common.{sym, ◌∙◌}
use Rattle.jsonc_layout.specs.input.Views.{plain}
use Rattle.jsonc_tree.specs.Tree.{parent_at}
use Rattle.jsonc_layout.specs.nodes.Properties.{value_at}
use Rattle.jsonc_edit.specs.Written.{Writes}
use Rattle.jsonc_edit.proofs.lemmas.set.FirstValueMade.{has_parent, root_child, holds_of_found}
use Rattle.jsonc_edit.proofs.set.root.set_root.Goals as goal

pub replace_child-requires : goal.replace_child-requires
replace_child-requires g c =
    has_parent (parent_at c.args.tree.now.nodes c.in-Some.node) 0 (root_child c.args.tree.now.nodes c.args.tree.now.tree c.in-Some.node (sym c.value_of.ensures.value ∙ c.in-Some.is))

pub returns-in-Some-clause-written : goal.returns-in-Some-clause-written
returns-in-Some-clause-written g c = λ p.
    holds_of_found (value_at c.args.tree.now.nodes 0) c.in-Some.node (λ n m. Writes p c.args.tree.now.nodes c.replace_child.new.tree.nodes n m (plain c.args.value.now)) c.replace_child.result (sym c.value_of.ensures.value ∙ c.in-Some.is)
    (c.replace_child.ensures.written p)
