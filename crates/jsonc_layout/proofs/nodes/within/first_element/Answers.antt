use Rattle.std.proofs.Common.{ap, sym, ◌∙◌}
use Rattle.std.specs.List.{find}
use Rattle.jsonc_layout.specs.nodes.Kinds.{is_element_at}
use Rattle.jsonc_layout.proofs.lemmas.nodes.Walks.{find_here, find_later}
use Rattle.jsonc_layout.proofs.nodes.within.first_element.Goals as goal

pub returns-then-is_element : goal.returns-then-is_element
returns-then-is_element g c =
    let p = is_element_at c.args.tree.now.nodes in
    sym (c.loop-node.invariant ∙ find_here p c.loop-node.node-iterator c.in-Some.node c.next.new.self c.in-Some.ensures.steps (sym c.is_element.ensures.element ∙ c.if-is_element.true))

pub loop-node-preserved : goal.loop-node-preserved
loop-node-preserved g c =
    let p = is_element_at c.args.tree.now.nodes in
    c.loop-node.invariant ∙ find_later p c.loop-node.node-iterator c.in-Some.node c.next.new.self c.in-Some.ensures.steps (sym c.is_element.ensures.element ∙ c.if-is_element.false)

pub returns : goal.returns
returns g c = sym (c.loop-node.invariant ∙ ap (find (is_element_at c.args.tree.now.nodes)) c.in-None.ensures.steps.0)
