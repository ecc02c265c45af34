use Rattle.std.proofs.Common.{◌∙◌, ◌++◌, ap, filter, length, subst, sym, ◌<◌}
use Rattle.std.proofs.lemmas.List.Elements.{All-filter}
use Rattle.jsonc_tree.specs.Tree.{children_at}
use Rattle.jsonc_layout.specs.nodes.Kinds.{is_element_at}
use Rattle.jsonc_layout.specs.nodes.Siblings.{AreThere}
use Rattle.jsonc_layout.proofs.lemmas.nodes.InTree.{children_there}
use Rattle.jsonc_layout.proofs.lemmas.nodes.Walks.{all_pushed, filter_here, filter_later, pushed_on}
use Rattle.jsonc_layout.proofs.nodes.within.elements.Goals as goal

pub loop-child-preserved-in-Continue-1 : goal.loop-child-preserved-in-Continue-1
loop-child-preserved-in-Continue-1 g c =
    let p = is_element_at c.args.tree.now.nodes in
    let here = filter_here p c.loop-child.child-iterator c.in-Some.child c.next.new.self c.in-Some.ensures.steps (sym c.is_element.ensures.element ∙ c.if-is_element.true) in
    pushed_on c.loop-child.list.items c.push.new.self.items (filter p c.loop-child.child-iterator) (filter p c.next.new.self) c.in-Some.child c.in_ok-push.ensures.items here ∙ c.loop-child.invariant

pub loop-child-preserved : goal.loop-child-preserved
loop-child-preserved g c =
    let p = is_element_at c.args.tree.now.nodes in
    let later = filter_later p c.loop-child.child-iterator c.in-Some.child c.next.new.self c.in-Some.ensures.steps (sym c.is_element.ensures.element ∙ c.if-is_element.false) in
    ap (λ l. c.loop-child.list.items ++ l) (sym later) ∙ c.loop-child.invariant

pub returns-clause-elements : goal.returns-clause-elements
returns-clause-elements g c =
    let p = is_element_at c.args.tree.now.nodes in
    all_pushed c.loop-child.list.items (filter p c.loop-child.child-iterator) _ c.loop-child.invariant (ap (filter p) c.in-None.ensures.steps.0)

pub returns-clause-in_tree : goal.returns-clause-in_tree
returns-clause-in_tree g c =
    let ns = c.args.tree.now.nodes in
    subst (AreThere ns) (sym (returns-clause-elements g c))
    (All-filter (is_element_at ns) (λ m. m < length ns) (children_at ns c.args.node) (children_there ns c.args.tree.now.tree c.args.node))
