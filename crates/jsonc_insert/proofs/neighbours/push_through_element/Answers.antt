use Rattle.std.proofs.Common.{[], refl, sym, ap, ◌∙◌}
use Rattle.jsonc_layout.proofs.lemmas.nodes.Walks.{all_pushed, pushed_on}
use Rattle.jsonc_insert.specs.Planned.{through_element}
use Rattle.jsonc_insert.proofs.RowFronts.{at_element, past_other}
use Rattle.jsonc_insert.proofs.neighbours.push_through_element.Goals as goal

pub loop-node-preserved : goal.loop-node-preserved
loop-node-preserved g c =
    let ns = c.args.tree.now.nodes in
    let off = sym c.is_element.ensures.element ∙ c.if-is_element.false in
    pushed_on c.loop-node.row.items c.push.new.self.items (through_element ns c.loop-node.node-iterator) (through_element ns c.next.new.self) c.in-Some.node c.in_ok-push.ensures.items
    (ap (through_element ns) c.in-Some.ensures.steps ∙ past_other ns c.in-Some.node c.next.new.self off)
    ∙ c.loop-node.invariant

pub returns-then-is_element : goal.returns-then-is_element
returns-then-is_element g c =
    let ns = c.args.tree.now.nodes in
    let on = sym c.is_element.ensures.element ∙ c.if-is_element.true in
    all_pushed c.push.new.self.items [] _
    (pushed_on c.loop-node.row.items c.push.new.self.items (through_element ns c.loop-node.node-iterator) [] c.in-Some.node c.in_ok-push.ensures.items
    (ap (through_element ns) c.in-Some.ensures.steps ∙ at_element ns c.in-Some.node c.next.new.self on)
    ∙ c.loop-node.invariant) refl

pub returns : goal.returns
returns g c =
    let ns = c.args.tree.now.nodes in
    all_pushed c.loop-node.row.items (through_element ns c.loop-node.node-iterator) _ c.loop-node.invariant (ap (through_element ns) c.in-None.ensures.steps.0)
