use Rattle.std.proofs.Common.{◌∙◌, sym, ap, subst, refl, arith, length, ◌+◌, List, ◌<◌}
use Rattle.std.proofs.lemmas.List.{nil_from_length}
use Rattle.jsonc_layout.proofs.lemmas.nodes.Rows.{all_given, given_at}
use Rattle.jsonc_layout.specs.nodes.Names.{HasName, NameReads}
use Rattle.jsonc_tree.specs.Stored.{content_of}
use Rattle.jsonc_tree.specs.Tree.{children_at}
use Rattle.jsonc_layout.specs.to_input.Taken.{IsTakenAt, AreTaken, AreMembersTaken, IsMemberTaken}
use Rattle.jsonc_layout.proofs.lemmas.to_input.Descendants.{child_smaller, value_smaller}
use Rattle.jsonc_layout.proofs.lemmas.to_input.Items.{none_taken, nothing_more_taken, one_more_taken}
use Rattle.jsonc_layout.proofs.lemmas.to_input.Members.{no_members_taken, nothing_more_put, one_more_put}
use Rattle.jsonc_layout.proofs.lemmas.to_input.Leaves.{not_property}
use Rattle.jsonc_layout.proofs.lemmas.to_input.Nodes.{array_taken, object_taken, held_taken, nothing_held, member_taken, nameless_passed, valueless_passed, other_passed, pairs_taken}
use Rattle.jsonc_layout.proofs.to_input.taken.+take.Goals as goal

pub take-returns-in_ok-take_elements-in-Array-clause-taken : goal.take-returns-in_ok-take_elements-in-Array-clause-taken
take-returns-in_ok-take_elements-in-Array-clause-taken g t c =
    array_taken c.args.tree.now.nodes c.args.node c.in_ok-take_elements-in-Array.field-0.items c.from.result (ap content_of (sym c.in-Array.is) ∙ c.kind.ensures) c.in_ok-take_elements-in-Array.ensures c.from.ensures

pub take-returns-in_ok-take_properties-in-Object-clause-taken : goal.take-returns-in_ok-take_properties-in-Object-clause-taken
take-returns-in_ok-take_properties-in-Object-clause-taken g t c =
    object_taken c.args.tree.now.nodes c.args.node c.in_ok-take_properties-in-Object.field-0.items c.from-in-Object.result (ap content_of (sym c.in-Object.is) ∙ c.kind.ensures) c.in_ok-take_properties-in-Object.ensures c.from-in-Object.ensures

pub take_elements-loop-child-init : goal.take_elements-loop-child-init
take_elements-loop-child-init g t c = (0, c.into_iter-child-iterator.ensures.into_iter_gives ∙ c.children-child-items.ensures.children, none_taken c.args.tree.now.nodes _ c.new-elements.result.items refl c.new-elements.ensures.items)

pub take_elements-take-requires : goal.take_elements-take-requires
take_elements-take-requires g t c κs within =
    let ns = c.args.tree.now.nodes in
    let so_far = c.loop-child.invariant in
    let step = given_at so_far.0 (children_at ns c.args.array) c.loop-child.child-iterator c.in-Some.child c.next.new.self so_far.1 c.in-Some.ensures.steps in
    let there : c.in-Some.child < length ns = omega (arith, step.1, c.args.tree.now.tree.in_tree c.args.array so_far.0 step.0) in
    let smaller = child_smaller ns c.args.tree.now.tree c.args.array so_far.0 c.in-Some.child c.requires.in_tree step.0 step.1 in
    (omega (arith, c.decreases, smaller), (within.0, (within.1, there)))

pub take_elements-loop-child-preserved : goal.take_elements-loop-child-preserved
take_elements-loop-child-preserved g t c =
    let ns = c.args.tree.now.nodes in
    let row : List _ = children_at ns c.args.array in
    let so_far = c.loop-child.invariant in
    let step = given_at so_far.0 row c.loop-child.child-iterator c.in-Some.child c.next.new.self so_far.1 c.in-Some.ensures.steps in
    let child = subst (λ m. IsTakenAt ns m c.in_ok-value.field-0) step.1 c.in_ok-value.ensures.taken in
    (so_far.0 + 1, step.2, nothing_more_taken ns row so_far.0 c.loop-child.elements.items c.in_ok-value.field-0 step.0 so_far.2 child c.in_default.is)

pub take_elements-loop-child-preserved-in-Continue-branch-3 : goal.take_elements-loop-child-preserved-in-Continue-branch-3
take_elements-loop-child-preserved-in-Continue-branch-3 g t c =
    let ns = c.args.tree.now.nodes in
    let row : List _ = children_at ns c.args.array in
    let so_far = c.loop-child.invariant in
    let step = given_at so_far.0 row c.loop-child.child-iterator c.in-Some.child c.next.new.self so_far.1 c.in-Some.ensures.steps in
    let child = subst (λ m. IsTakenAt ns m c.in_ok-value.field-0) step.1 c.in_ok-value.ensures.taken in
    (so_far.0 + 1, step.2, one_more_taken ns row so_far.0 c.loop-child.elements.items c.push.new.self.items c.in_ok-value.field-0 c.in-Some-2.value step.0 so_far.2 child c.in-Some-2.is c.in_ok-push.ensures.items)

pub take_elements-returns : goal.take_elements-returns
take_elements-returns g t c =
    let ns = c.args.tree.now.nodes in
    let row : List _ = children_at ns c.args.array in
    subst (λ l. AreTaken ns l c.loop-child.elements.items) (all_given c.loop-child.invariant.0 row c.loop-child.child-iterator c.loop-child.invariant.1 c.in-None.ensures.steps.0) c.loop-child.invariant.2

pub take_held-take-requires : goal.take_held-take-requires
take_held-take-requires g t c κs within =
    let ns = c.args.tree.now.nodes in
    let smaller = value_smaller ns c.args.tree.now.tree c.args.node c.in-Some.value c.requires.in_tree (sym c.in-Some.ensures.value) in
    (omega (arith, c.decreases, smaller), (within.0, (within.1, c.in-Some.ensures.in_tree)))

pub take_held-returns-in-Some : goal.take_held-returns-in-Some
take_held-returns-in-Some g t c = held_taken c.args.tree.now.nodes c.args.node c.in-Some.value _ (sym c.in-Some.ensures.value) c.take.ensures.taken

pub take_held-returns-in-None : goal.take_held-returns-in-None
take_held-returns-in-None g t c = nothing_held c.args.tree.now.nodes c.args.node c.requires.holds (sym c.in-None.ensures.value)

pub take_properties-loop-child-init : goal.take_properties-loop-child-init
take_properties-loop-child-init g t c = (0, c.into_iter-child-iterator.ensures.into_iter_gives ∙ c.children-child-items.ensures.children, no_members_taken c.args.tree.now.nodes _ c.new-properties.result.entries refl (nil_from_length c.new-properties.result.entries c.new-properties.ensures.len))

pub take_properties-take_property-requires : goal.take_properties-take_property-requires
take_properties-take_property-requires g t c κs within =
    let ns = c.args.tree.now.nodes in
    let so_far = c.loop-child.invariant in
    let step = given_at so_far.0 (children_at ns c.args.object) c.loop-child.child-iterator c.in-Some.child c.next.new.self so_far.1 c.in-Some.ensures.steps in
    let there : c.in-Some.child < length ns = omega (arith, step.1, c.args.tree.now.tree.in_tree c.args.object so_far.0 step.0) in
    let smaller = child_smaller ns c.args.tree.now.tree c.args.object so_far.0 c.in-Some.child c.requires.in_tree step.0 step.1 in
    (omega (arith, c.decreases, smaller), (within.0, (within.1, there)))

pub take_properties-loop-child-preserved : goal.take_properties-loop-child-preserved
take_properties-loop-child-preserved g t c =
    let ns = c.args.tree.now.nodes in
    let row : List _ = children_at ns c.args.object in
    let so_far = c.loop-child.invariant in
    let step = given_at so_far.0 row c.loop-child.child-iterator c.in-Some.child c.next.new.self so_far.1 c.in-Some.ensures.steps in
    let child = subst (λ m. IsMemberTaken ns m c.in_ok-name.field-0) step.1 c.in_ok-name.ensures in
    (so_far.0 + 1, step.2, nothing_more_put ns row so_far.0 c.loop-child.properties.entries c.in_ok-name.field-0 step.0 so_far.2 child c.in_default.is)

pub take_properties-loop-child-preserved-in-Continue-branch-3 : goal.take_properties-loop-child-preserved-in-Continue-branch-3
take_properties-loop-child-preserved-in-Continue-branch-3 g t c =
    let ns = c.args.tree.now.nodes in
    let row : List _ = children_at ns c.args.object in
    let so_far = c.loop-child.invariant in
    let step = given_at so_far.0 row c.loop-child.child-iterator c.in-Some.child c.next.new.self so_far.1 c.in-Some.ensures.steps in
    let child = subst (λ m. IsMemberTaken ns m c.in_ok-name.field-0) step.1 c.in_ok-name.ensures in
    (so_far.0 + 1, step.2, one_more_put ns row so_far.0 c.loop-child.properties.entries c.put_property.new.properties.entries c.in_ok-name.field-0 c.in-Some-2.name c.in-Some-2.value step.0 so_far.2 child c.in-Some-2.is c.in_ok-put_property.ensures)

pub take_properties-returns : goal.take_properties-returns
take_properties-returns g t c =
    let ns = c.args.tree.now.nodes in
    let row : List _ = children_at ns c.args.object in
    let all = subst (λ l. AreMembersTaken ns l c.loop-child.properties.entries) (all_given c.loop-child.invariant.0 row c.loop-child.child-iterator c.loop-child.invariant.1 c.in-None.ensures.steps.0) c.loop-child.invariant.2 in
    pairs_taken ns row c.loop-child.properties.entries (λ v. v.items) c.pairs_of.result c.pairs_of.ensures all

pub take_property-returns-in_default : goal.take_property-returns-in_default
take_property-returns-in_default g t c =
    other_passed c.args.tree.now.nodes c.args.child (content_of c.kind.result.now) c.kind.ensures (not_property c.kind.result.now c.in_default.not-Property)

pub take_property-returns-in_default-2 : goal.take_property-returns-in_default-2
take_property-returns-in_default-2 g t c =
    let none = subst (NameReads (HasName c.args.tree.now.nodes c.args.child)) c.in_default-2.is c.in_ok-name.ensures.name in
    nameless_passed c.args.tree.now.nodes c.args.child (ap content_of (sym c.in-Property.is) ∙ c.kind.ensures) none

pub take_property-returns-in-Some-2 : goal.take_property-returns-in-Some-2
take_property-returns-in-Some-2 g t c =
    let name = subst (NameReads (HasName c.args.tree.now.nodes c.args.child)) c.in-Some.is c.in_ok-name.ensures.name in
    member_taken c.args.tree.now.nodes c.args.child c.in-Some.name c.in-Some-2.value c.in_ok-value.field-0 (ap content_of (sym c.in-Property.is) ∙ c.kind.ensures) name c.in_ok-value.ensures.taken c.in-Some-2.is

pub take_property-returns-in-None : goal.take_property-returns-in-None
take_property-returns-in-None g t c =
    valueless_passed c.args.tree.now.nodes c.args.child c.in_ok-value.field-0 (ap content_of (sym c.in-Property.is) ∙ c.kind.ensures) c.in_ok-value.ensures.taken c.in-None.is
