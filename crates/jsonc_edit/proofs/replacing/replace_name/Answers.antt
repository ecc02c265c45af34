use Rattle.std.proofs.Common.{sym, subst, ◌∙◌}
use Rattle.jsonc_tree.proofs.Order.{parent_there}
use Rattle.jsonc_edit.specs.Replacing.{ReplacedByRaw}
use Rattle.jsonc_edit.proofs.replacing.replace_name.Goals as goal

pub layout_for_value-requires-clause-container : goal.layout_for_value-requires-clause-container
layout_for_value-requires-clause-container g c = (parent_there c.args.tree.now.nodes c.args.tree.now.tree c.args.node c.in-Some.container (sym c.parent.ensures ∙ c.in-Some.is)).1

pub layout_for_value-requires-clause-node : goal.layout_for_value-requires-clause-node
layout_for_value-requires-clause-node g c = layout_for_value-requires-clause-container g c

pub returns-clause-replaced : goal.returns-clause-replaced
returns-clause-replaced g c = (
  c.in-Some.container,
  sym c.parent.ensures ∙ c.in-Some.is,
  subst (ReplacedByRaw c.args.tree.now.nodes c.replace_raw.new.tree.nodes c.args.node c.in_ok-raw.raw) c.in_ok-told.ensures.alike c.in_ok-raw.ensures.replaced,
)
