use Rattle.std.proofs.Common.{reverse, rules}
use Rattle.jsonc_tree.specs.Tree.{children_at}
use Rattle.jsonc_layout.proofs.lemmas.nodes.Rows.{find_in}
use Rattle.jsonc_edit.specs.Due.{prints_at}
use Rattle.jsonc_edit.proofs.due.seen_last.Goals as goal

pub returns-clause-seen : goal.returns-clause-seen
returns-clause-seen g c =
    let ns = c.args.tree.now.nodes in
    find_in (prints_at ns) (reverse (children_at ns c.args.container)) _ _ _ c.find.ensures.ran c.children_backwards.ensures.children (λ x b q k. search rules)
