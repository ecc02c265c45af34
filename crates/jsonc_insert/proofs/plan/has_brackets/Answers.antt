use Rattle.std.proofs.Common.{◌&&◌, ap, sym, ◌∙◌}
use Rattle.jsonc_tree.specs.Tree.{content_at}
use Rattle.jsonc_layout.specs.nodes.Kinds.{is_token}
use Rattle.jsonc_insert.proofs.FirstAndLast.{two_apart}
use Rattle.jsonc_insert.proofs.plan.has_brackets.Goals as goal

pub returns : goal.returns
returns g c =
    let ns = c.args.tree.now.nodes in
    c.is_token-2.ensures
    ∙ sym (two_apart ns c.args.tree.now.tree c.args.container c.in-Some.first c.in-Some-last_child.last (sym c.first_child.ensures ∙ c.in-Some.is) (sym c.last_child.ensures ∙ c.in-Some-last_child.is) c.if-first-last.false
    ∙ ap (λ b. b && is_token (content_at ns c.in-Some-last_child.last)) (sym c.is_token.ensures ∙ c.if-not-is_token.false))
