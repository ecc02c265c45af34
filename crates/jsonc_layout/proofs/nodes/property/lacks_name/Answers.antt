use Rattle.std.proofs.Common.{rules, ap, not}
use Rattle.jsonc_layout.specs.nodes.Kinds.{is_colon_at}
use Rattle.jsonc_layout.specs.nodes.Properties.{behind_name}
use Rattle.jsonc_layout.proofs.lemmas.nodes.Rows.{any_in}
use Rattle.jsonc_layout.proofs.nodes.property.lacks_name.Goals as goal

pub returns : goal.returns
returns g c =
    let ns = c.args.tree.now.nodes in
    record { lacks = ap not (any_in (is_colon_at ns) (behind_name ns c.args.property) _ _ _ c.any.ensures.ran c.behind_name.ensures.children (λ x b q k. search rules)) }
