use Rattle.std.proofs.Common.{◌<◌, length, sym, subst, ◌∙◌, arith}
use Rattle.std.proofs.lemmas.List.Elements.{All-drop}
use Rattle.jsonc_tree.specs.Tree.{children_at}
use Rattle.jsonc_layout.specs.nodes.Siblings.{AreThere}
use Rattle.jsonc_layout.proofs.lemmas.nodes.Rows.{dropped_next, dropped_past}
use Rattle.jsonc_layout.proofs.lemmas.nodes.InTree.{children_there}
use Rattle.jsonc_layout.proofs.nodes.siblings.children_from.Goals as goal

pub returns-in_default-clause-children : goal.returns-in_default-clause-children
returns-in_default-clause-children g c =
    let row = children_at c.args.tree.now.nodes c.args.container in
    let steps = c.in_default.ensures.steps in
    steps.1 ∙ sym (dropped_past c.loop-passed._passed c.args.place row c.loop-passed.children (omega (arith, c.loop-passed-test.true)) c.loop-passed.invariant steps.0)

pub loop-passed-preserved : goal.loop-passed-preserved
loop-passed-preserved g c =
    dropped_next c.loop-passed._passed c.in-Some.field-0 (children_at c.args.tree.now.nodes c.args.container) c.loop-passed.children c.next.new.self c.loop-passed.invariant c.in-Some.ensures.steps

pub returns-clause-in_tree : goal.returns-clause-in_tree
returns-clause-in_tree g c =
    let ns = c.args.tree.now.nodes in
    let row = children_at ns c.args.container in
    subst (AreThere ns) (sym (c.loop-passed.invariant)) (All-drop (λ m. m < length ns) c.loop-passed._passed row (children_there ns c.args.tree.now.tree c.args.container))
