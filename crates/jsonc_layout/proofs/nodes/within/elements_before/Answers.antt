use Rattle.std.proofs.Common.{ap, sym, ◌∙◌, arith, filter, length}
use Rattle.jsonc_layout.specs.nodes.Kinds.{is_element_at}
use Rattle.jsonc_layout.specs.nodes.Siblings.{siblings_before}
use Rattle.jsonc_layout.proofs.lemmas.nodes.Walks.{filter_here, filter_later, filter_short}
use Rattle.jsonc_layout.proofs.nodes.within.elements_before.Goals as goal

pub overflow_add-count : goal.overflow_add-count
overflow_add-count g c =
    let p = is_element_at c.args.tree.now.nodes in
    let row = siblings_before c.args.tree.now.nodes c.args.node in
    let here = filter_here p c.loop-sibling.sibling-iterator c.in-Some.sibling c.next.new.self c.in-Some.ensures.steps (sym c.is_element.ensures.element ∙ c.if-is_element.true) in
    omega (arith, c.loop-sibling.invariant, ap length here, filter_short p row, ap length c.previous_siblings-sibling-items.ensures.siblings, c.previous_siblings-sibling-items.ensures.countable)

pub loop-sibling-preserved : goal.loop-sibling-preserved
loop-sibling-preserved g c =
    let p = is_element_at c.args.tree.now.nodes in
    let later = filter_later p c.loop-sibling.sibling-iterator c.in-Some.sibling c.next.new.self c.in-Some.ensures.steps (sym c.is_element.ensures.element ∙ c.if-is_element.false) in
    omega (arith, c.loop-sibling.invariant, ap length later)

pub returns : goal.returns
returns g c =
    omega (arith, c.loop-sibling.invariant, ap (λ l. length (filter (is_element_at c.args.tree.now.nodes) l)) c.in-None.ensures.steps.0)
