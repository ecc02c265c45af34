use Rattle.std.proofs.Common.{rules}
use Rattle.jsonc_tree.specs.Siblings.{siblings_after}
use Rattle.jsonc_layout.proofs.lemmas.nodes.Rows.{find_in}
use Rattle.jsonc_edit.specs.Due.{prints_at}
use Rattle.jsonc_edit.proofs.due.nearest_behind.Goals as goal

pub returns-clause-seen : goal.returns-clause-seen
returns-clause-seen g c =
    let ns = c.args.tree.now.nodes in
    find_in (prints_at ns) (siblings_after ns c.args.node) _ _ _ c.find.ensures.ran c.next_siblings.ensures.siblings (λ x b q k. search rules)
