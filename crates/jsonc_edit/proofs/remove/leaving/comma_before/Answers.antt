use Rattle.std.proofs.Common.{rules}
use Rattle.jsonc_layout.specs.nodes.Siblings.{siblings_before}
use Rattle.jsonc_layout.proofs.lemmas.nodes.Rows.{find_in}
use Rattle.jsonc_layout.proofs.lemmas.nodes.InTree.{found_there}
use Rattle.jsonc_layout.specs.nodes.Kinds.{is_comma_at}
use Rattle.jsonc_edit.proofs.remove.leaving.comma_before.Goals as goal

pub returns-clause-comma : goal.returns-clause-comma
returns-clause-comma g c =
    let ns = c.args.tree.now.nodes in
    find_in (is_comma_at ns) (siblings_before ns c.args.node) _ _ _ c.find.ensures.ran c.previous_siblings.ensures.siblings (λ x b q k. search rules)

pub returns-clause-in_tree : goal.returns-clause-in_tree
returns-clause-in_tree g c =
    let ns = c.args.tree.now.nodes in
    found_there ns (is_comma_at ns) c.find.result c.previous_siblings.result (siblings_before ns c.args.node) (returns-clause-comma g c) c.previous_siblings.ensures.siblings c.previous_siblings.ensures.in_tree
