use Rattle.std.proofs.Common.{rules, ◌==◌}
use Rattle.jsonc_tree.specs.Tree.{parent_at}
use Rattle.jsonc_tree.specs.Order.{upward}
use Rattle.jsonc_layout.proofs.lemmas.nodes.Rows.{find_in}
use Rattle.jsonc_layout.proofs.nodes.siblings.root_node.Goals as goal

pub returns-clause-root : goal.returns-clause-root
returns-clause-root g c =
    let ns = c.args.tree.now.nodes in
    find_in (λ m. m == 0) (upward ns (parent_at ns c.args.node)) _ _ _ c.find.ensures.ran c.ancestors.ensures (λ x b q k. search rules)
