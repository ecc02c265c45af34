use Rattle.std.proofs.Common.{◌≡◌, ◌∙◌, ◌<◌, List, None, Some, ap, chars, length, map, subst, sym}
use Rattle.std.specs.List.{All}
use Rattle.jsonc_tree.specs.Order.{in_order}
use Rattle.jsonc_tree.specs.Tree.{Node, IsOver}
use Rattle.jsonc_cst.specs.Nodes.{number_of, IsNodeOf}
use Rattle.jsonc_cst.specs.Ranges.{IsRangeOf}
use Rattle.jsonc_cst.specs.Readings.{typed_all}
use Rattle.jsonc_lint.specs.SeenNames.{AreKnown}
use Rattle.jsonc_lint.specs.Steps.{IsFound}
use Rattle.jsonc_lint.proofs.Repeats.{none_known}
use Rattle.jsonc_lint.proofs.Walk.{Ranged, begun, found_there, next_ready, number, passed_nothing, passed_one}
use Rattle.jsonc_lint.proofs.linting.findings_of.Goals as goal

pub loop-node-init : goal.loop-node-init
loop-node-init g c =
    let ns = c.args.doc.now.tree.nodes in
    let rest : List Ranged = c.into_iter-node-iterator.result in
    let all = c.descendants_with_ranges-node-items.ensures in
    let same = c.into_iter-node-iterator.ensures.into_iter_gives in
    let top = ap number_of c.into.ensures ∙ c.root.ensures.first in
    let nodes : map (λ x. x.0) rest ≡ typed_all ns (in_order ns 0) = ap (map (λ x. x.0)) same ∙ all.nodes ∙ ap (λ n. typed_all ns (in_order ns n)) top in
    begun c.args.rules ns (chars c.args.text.now) c.args.doc.now.tree.tree rest c.new-names.result c.new-findings.result.items nodes (subst (All (λ x. IsNodeOf ns x.0)) (sym same) all.in_document)
    (subst (All (λ x. IsRangeOf ns (number x) x.1)) (sym same) all.ranges) (none_known ns c.new-names.result c.new-names.ensures.empty) c.new-findings.ensures.items

pub found_at-requires-clause-in_tree : goal.found_at-requires-clause-in_tree
found_at-requires-clause-in_tree g c =
    let ns : List Node = c.args.doc.now.tree.nodes in
    let x : Ranged = (c.in-Some.node, c.in-Some.range) in
    let ready = next_ready c.args.rules ns (chars c.args.text.now) x c.next.new.self c.loop-node.node-iterator c.in-Some.ensures.steps c.loop-node.names c.loop-node.names c.loop-node.findings.items c.loop-node.invariant in
    subst (λ (l : List Node). c.number-number.result < length l) (sym c.tree-tree.ensures) (subst (λ k. k < length ns) (sym c.number-number.ensures) ready.0)

pub found_at-requires-clause-attached : goal.found_at-requires-clause-attached
found_at-requires-clause-attached g c =
    let ns : List Node = c.args.doc.now.tree.nodes in
    let x : Ranged = (c.in-Some.node, c.in-Some.range) in
    let ready = next_ready c.args.rules ns (chars c.args.text.now) x c.next.new.self c.loop-node.node-iterator c.in-Some.ensures.steps c.loop-node.names c.loop-node.names c.loop-node.findings.items c.loop-node.invariant in
    subst (λ (l : List Node). IsOver l 0 c.number-number.result) (sym c.tree-tree.ensures) (subst (IsOver ns 0) (sym c.number-number.ensures) ready.1)

pub found_at-requires-clause-range : goal.found_at-requires-clause-range
found_at-requires-clause-range g c =
    let ns : List Node = c.args.doc.now.tree.nodes in
    let x : Ranged = (c.in-Some.node, c.in-Some.range) in
    let ready = next_ready c.args.rules ns (chars c.args.text.now) x c.next.new.self c.loop-node.node-iterator c.in-Some.ensures.steps c.loop-node.names c.loop-node.names c.loop-node.findings.items c.loop-node.invariant in
    subst (λ (l : List Node). IsRangeOf l c.number-number.result c.in-Some.range) (sym c.tree-tree.ensures) (subst (λ k. IsRangeOf ns k c.in-Some.range) (sym c.number-number.ensures) ready.2)

pub found_at-requires-clause-names : goal.found_at-requires-clause-names
found_at-requires-clause-names g c = subst (λ (l : List Node). AreKnown l c.loop-node.names) (sym c.tree-tree.ensures) (c.loop-node.invariant.passed, c.loop-node.invariant.known)

pub loop-node-preserved-in-Continue-branch-4 : goal.loop-node-preserved-in-Continue-branch-4
loop-node-preserved-in-Continue-branch-4 g c =
    let ns : List Node = c.args.doc.now.tree.nodes in
    let t = chars c.args.text.now in
    let x : Ranged = (c.in-Some.node, c.in-Some.range) in
    let found = subst (IsFound c.args.rules c.tree-tree.result.now.nodes (chars c.in_ok-lines.lines) c.number-number.result c.loop-node.names c.found_at.new.names) c.in-Some-2.is c.in_ok-finding.ensures in
    passed_one c.args.rules ns t x c.next.new.self c.loop-node.node-iterator c.in-Some.ensures.steps c.loop-node.names c.found_at.new.names c.loop-node.findings.items c.loop-node.invariant c.in-Some-2.finding c.push.new.self.items
    (found_there c.args.rules ns t c.tree-tree.result.now.nodes (chars c.in_ok-lines.lines) c.number-number.result (number x) c.loop-node.names c.found_at.new.names (Some c.in-Some-2.finding) c.tree-tree.ensures (ap chars c.in_ok-lines.ensures) c.number-number.ensures found)
    c.in_ok-push.ensures.items

pub loop-node-preserved : goal.loop-node-preserved
loop-node-preserved g c =
    let ns : List Node = c.args.doc.now.tree.nodes in
    let t = chars c.args.text.now in
    let x : Ranged = (c.in-Some.node, c.in-Some.range) in
    let found = subst (IsFound c.args.rules c.tree-tree.result.now.nodes (chars c.in_ok-lines.lines) c.number-number.result c.loop-node.names c.found_at.new.names) c.in_default.is c.in_ok-finding.ensures in
    passed_nothing c.args.rules ns t x c.next.new.self c.loop-node.node-iterator c.in-Some.ensures.steps c.loop-node.names c.found_at.new.names c.loop-node.findings.items c.loop-node.invariant
    (found_there c.args.rules ns t c.tree-tree.result.now.nodes (chars c.in_ok-lines.lines) c.number-number.result (number x) c.loop-node.names c.found_at.new.names None c.tree-tree.ensures (ap chars c.in_ok-lines.ensures) c.number-number.ensures found)
