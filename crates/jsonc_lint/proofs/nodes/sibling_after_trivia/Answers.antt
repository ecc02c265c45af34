use Rattle.std.proofs.Common.{not, rules}
use Rattle.jsonc_layout.specs.nodes.Kinds.{is_trivia_at}
use Rattle.jsonc_layout.specs.nodes.Siblings.{siblings_after}
use Rattle.jsonc_layout.proofs.lemmas.nodes.Rows.{find_in}
use Rattle.jsonc_lint.proofs.nodes.sibling_after_trivia.Goals as goal

pub returns : goal.returns
returns g c =
    let ns = c.args.tree.now.nodes in
    find_in (λ m. not (is_trivia_at ns m)) (siblings_after ns c.args.node) _ _ _ c.find.ensures.ran c.next_siblings.ensures.siblings (λ x b q k. search rules)
