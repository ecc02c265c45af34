use Rattle.std.proofs.Common.{rules}
use Rattle.jsonc_layout.specs.nodes.Siblings.{siblings_before}
use Rattle.jsonc_layout.proofs.lemmas.nodes.Rows.{find_in}
use Rattle.jsonc_cst.specs.Readings.{is_property_at}
use Rattle.jsonc_cst.proofs.cst.elements.property_before.Goals as goal

pub returns : goal.returns
returns g c =
    let ns = c.args.tree.now.nodes in
    find_in (is_property_at ns) (siblings_before ns c.args.node) _ _ _ c.find.ensures.ran c.previous_siblings.ensures.siblings (λ x b q k. search rules)
