use Rattle.std.proofs.Common.{◌<◌, ◌∙◌, ap, length, subst, sym}
use Rattle.std.specs.List.{All}
use Rattle.jsonc_tree.specs.Order.{in_order}
use Rattle.jsonc_tree.specs.Tree.{itself}
use Rattle.jsonc_cst.specs.Nodes.{IsNodeOf}
use Rattle.jsonc_cst.specs.Readings.{typed_all}
use Rattle.jsonc_cst.proofs.Descendants.{descendants_held, rest_at_top}
use Rattle.jsonc_cst.proofs.cst.CstRootNode.descendants.Goals as goal

pub invariant_of-result : goal.invariant_of-result
invariant_of-result g c = (subst (λ n. n < length c.args.self.now.tree.nodes) (sym c.number-number.ensures) c.requires.0, itself)

pub returns-clause-nodes : goal.returns-clause-nodes
returns-clause-nodes g c =
    let ns = c.args.self.now.tree.nodes in
    ap (typed_all ns) (rest_at_top ns c.args.self.now.tree.tree c.number-number.result (subst (λ n. n < length ns) (sym c.number-number.ensures) c.requires.0) ∙ ap (in_order ns) c.number-number.ensures)

pub returns-clause-in_document : goal.returns-clause-in_document
returns-clause-in_document g c =
    let ns = c.args.self.now.tree.nodes in
    subst (All (IsNodeOf ns)) (sym (returns-clause-nodes g c)) (descendants_held ns c.args.self.now.tree.tree _ c.requires.0)
