use Rattle.std.proofs.Common.{ap, sym, subst, ◌∙◌, ◌<◌, arith, filter, length, slice_get}
use Rattle.std.proofs.lemmas.List.Elements.{All-filter}
use Rattle.jsonc_tree.specs.Tree.{children_at}
use Rattle.jsonc_layout.specs.nodes.Kinds.{is_element_at}
use Rattle.jsonc_layout.specs.nodes.Siblings.{IsThere, elements_at}
use Rattle.jsonc_layout.proofs.lemmas.nodes.InTree.{children_there}
use Rattle.jsonc_layout.proofs.lemmas.nodes.Walks.{filter_here, filter_later, got_first, got_later, got_there}
use Rattle.jsonc_layout.proofs.nodes.within.element_at.Goals as goal

pub returns-then-left-eq0-clause-element : goal.returns-then-left-eq0-clause-element
returns-then-left-eq0-clause-element g c =
    let p = is_element_at c.args.tree.now.nodes in
    let here = filter_here p c.loop-candidate.candidate-iterator c.in-Some.candidate c.next.new.self c.in-Some.ensures.steps (sym c.is_element.ensures.element ∙ c.if-not-is_element.false) in
    sym (c.loop-candidate.invariant ∙ got_first (filter p c.loop-candidate.candidate-iterator) c.in-Some.candidate (filter p c.next.new.self) c.loop-candidate.left here c.if-left-eq0.true)

pub returns-then-left-eq0-clause-in_tree : goal.returns-then-left-eq0-clause-in_tree
returns-then-left-eq0-clause-in_tree g c =
    let ns = c.args.tree.now.nodes in
    let p = is_element_at ns in
    let there = All-filter p (λ m. m < length ns) (children_at ns c.args.node) (children_there ns c.args.tree.now.tree c.args.node) in
    subst (IsThere ns) (sym (returns-then-left-eq0-clause-element g c)) (got_there ns (elements_at ns c.args.node) c.args.place there)

pub loop-candidate-preserved : goal.loop-candidate-preserved
loop-candidate-preserved g c =
    let p = is_element_at c.args.tree.now.nodes in
    let here = filter_here p c.loop-candidate.candidate-iterator c.in-Some.candidate c.next.new.self c.in-Some.ensures.steps (sym c.is_element.ensures.element ∙ c.if-not-is_element.false) in
    c.loop-candidate.invariant ∙ got_later (filter p c.loop-candidate.candidate-iterator) c.in-Some.candidate (filter p c.next.new.self) c.loop-candidate.left here (omega arith)

pub loop-candidate-preserved-then-not-is_element : goal.loop-candidate-preserved-then-not-is_element
loop-candidate-preserved-then-not-is_element g c =
    let p = is_element_at c.args.tree.now.nodes in
    let later = filter_later p c.loop-candidate.candidate-iterator c.in-Some.candidate c.next.new.self c.in-Some.ensures.steps (sym c.is_element.ensures.element ∙ c.if-not-is_element.true) in
    c.loop-candidate.invariant ∙ ap (λ l. slice_get l c.loop-candidate.left) later

pub returns-clause-element : goal.returns-clause-element
returns-clause-element g c =
    sym (c.loop-candidate.invariant ∙ ap (λ l. slice_get (filter (is_element_at c.args.tree.now.nodes) l) c.loop-candidate.left) c.in-None.ensures.steps.0)
