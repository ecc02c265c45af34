use Rattle.std.proofs.Common.{ap, sym, ◌∙◌}
use Rattle.std.specs.List.{take_while}
use Rattle.jsonc_layout.proofs.lemmas.nodes.Walks.{all_pushed, pushed_on}
use Rattle.jsonc_layout.specs.nodes.Siblings.{siblings_after}
use Rattle.jsonc_cst.proofs.lemmas.comments.Gaps.{gap_ends, gap_more, no_element}
use Rattle.jsonc_cst.proofs.cst.comments.gap_after.Goals as goal

pub returns-then-is_element : goal.returns-then-is_element
returns-then-is_element g c =
    let ns = c.args.tree.now.nodes in
    let row = c.loop-sibling.sibling-iterator in
    all_pushed c.loop-sibling.gap.items (take_while (no_element ns) row) (take_while (no_element ns) (siblings_after ns c.args.node)) c.loop-sibling.invariant (gap_ends ns row c.next.new.self c.in-Some.sibling c.in-Some.ensures.steps (sym c.is_element.ensures.element ∙ c.if-is_element.true))

pub loop-sibling-preserved : goal.loop-sibling-preserved
loop-sibling-preserved g c =
    let ns = c.args.tree.now.nodes in
    let row = c.loop-sibling.sibling-iterator in
    let taken = gap_more ns row c.next.new.self c.in-Some.sibling c.in-Some.ensures.steps (sym c.is_element.ensures.element ∙ c.if-is_element.false) in
    pushed_on c.loop-sibling.gap.items c.push.new.self.items (take_while (no_element ns) row) (take_while (no_element ns) c.next.new.self) c.in-Some.sibling c.in_ok-push.ensures.items taken
    ∙ c.loop-sibling.invariant

pub returns : goal.returns
returns g c =
    let ns = c.args.tree.now.nodes in
    all_pushed c.loop-sibling.gap.items (take_while (no_element ns) c.loop-sibling.sibling-iterator) (take_while (no_element ns) (siblings_after ns c.args.node)) c.loop-sibling.invariant (ap (take_while (no_element ns)) c.in-None.ensures.steps.0)
