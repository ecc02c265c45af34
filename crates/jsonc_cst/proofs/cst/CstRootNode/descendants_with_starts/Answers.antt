use Rattle.std.proofs.Common.{◌<◌, ◌∙◌, ap, length, refl, subst, sym, Some}
use Rattle.std.specs.List.{All}
use Rattle.jsonc_tree.specs.Order.{in_order, rest_at}
use Rattle.jsonc_tree.specs.Tree.{itself}
use Rattle.jsonc_cst.specs.Nodes.{IsNodeOf}
use Rattle.jsonc_cst.specs.Readings.{typed_all}
use Rattle.jsonc_cst.proofs.Descendants.{descendants_held, rest_at_top}
use Rattle.jsonc_cst.proofs.RangedDescendants.{all_firsts, all_placed, nodes_of_placed, stands_first}
use Rattle.jsonc_cst.proofs.cst.CstRootNode.descendants_with_starts.Goals as goal

pub invariant_of-result : goal.invariant_of-result
invariant_of-result g c = (subst (λ n. n < length c.args.self.now.tree.nodes) (sym c.number-first.ensures) c.requires.0, itself)

pub returns-clause-nodes : goal.returns-clause-nodes
returns-clause-nodes g c =
    let ns = c.args.self.now.tree.nodes in
    let n = c.number-first.result in
    nodes_of_placed ns c.bytes_before.result (rest_at ns n (Some n))
    ∙ ap (typed_all ns) (rest_at_top ns c.args.self.now.tree.tree n (subst (λ n. n < length ns) (sym c.number-first.ensures) c.requires.0) ∙ ap (in_order ns) c.number-first.ensures)

pub returns-clause-in_document : goal.returns-clause-in_document
returns-clause-in_document g c =
    let ns = c.args.self.now.tree.nodes in
    all_firsts (IsNodeOf ns) _ (subst (All (IsNodeOf ns)) (sym (returns-clause-nodes g c)) (descendants_held ns c.args.self.now.tree.tree _ c.requires.0))

pub returns-clause-starts : goal.returns-clause-starts
returns-clause-starts g c =
    let ns = c.args.self.now.tree.nodes in
    let n = c.number-first.result in
    let there = subst (λ n. n < length ns) (sym c.number-first.ensures) c.requires.0 in
    all_placed ns c.args.self.now.tree.tree n there (rest_at ns n (Some n)) (Some n) c.bytes_before.result refl (there, itself) (stands_first ns c.args.self.now.tree.tree n c.bytes_before.result c.bytes_before.ensures.found c.bytes_before.ensures.none)
