use Rattle.std.proofs.Common.{sym, ◌∙◌}
use Rattle.jsonc_tree.proofs.Order.{parent_there}
use Rattle.jsonc_edit.proofs.due.behind_property.Goals as goal

pub kind-requires : goal.kind-requires
kind-requires g c = (parent_there c.args.tree.now.nodes c.args.tree.now.tree c.args.node c.in_ok-container.container (sym c.parent.ensures ∙ c.in_ok-container.was)).1
