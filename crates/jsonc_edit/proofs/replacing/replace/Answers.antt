use Rattle.std.proofs.Common.{sym, ◌∙◌}
use Rattle.jsonc_tree.proofs.Order.{parent_there}
use Rattle.jsonc_layout.specs.input.Views.{plain}
use Rattle.jsonc_layout.specs.from_input.Layout.{layout_of}
use Rattle.jsonc_edit.proofs.ReplacedValues.{answer_writes}
use Rattle.jsonc_edit.proofs.replacing.replace.Goals as goal

pub layout_for_value-requires-clause-container : goal.layout_for_value-requires-clause-container
layout_for_value-requires-clause-container g c = (parent_there c.args.tree.now.nodes c.args.tree.now.tree c.args.node c.in-Some.container (sym c.parent.ensures ∙ c.in-Some.is)).1

pub returns-clause-written : goal.returns-clause-written
returns-clause-written g c = λ p.
    answer_writes p _ _ c.args.node c.in-Some.container (layout_of c.in_ok-layout.layout) (plain c.args.value.now) c.args.tree.now.tree (sym c.parent.ensures ∙ c.in-Some.is)
    c.in_ok-layout.ensures.alike c.replace_with.result c.replace_with.ensures.replaced
