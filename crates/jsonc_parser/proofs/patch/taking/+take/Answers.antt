use Rattle.std.proofs.Common.{◌∙◌, sym, ap, subst, refl, arith, length, ◌+◌, List, ◌<◌}
use Rattle.jsonc_layout.proofs.lemmas.nodes.Rows.{all_given, given_at}
use Rattle.jsonc_layout.specs.nodes.Names.{HasName, NameReads}
use Rattle.jsonc_tree.specs.Stored.{content_of}
use Rattle.jsonc_tree.specs.Tree.{children_at}
use Rattle.jsonc_layout.specs.to_input.Taken.{GivesAt}
use Rattle.jsonc_layout.specs.input.Views.{named, plain}
use Rattle.std.specs.Option.{option_map}
use Rattle.jsonc_layout.proofs.lemmas.to_input.Descendants.{child_smaller, value_smaller}
use Rattle.jsonc_layout.proofs.lemmas.to_input.Leaves.{not_property}
use Rattle.jsonc_layout.proofs.lemmas.to_input.Shown.{no_value_gives}
use Rattle.jsonc_parser.specs.patch.Taking.{GivesMemberAt, RowGives, RowGivesMembers}
use Rattle.jsonc_parser.proofs.lemmas.patch.Taking.{array_given, held_given, member_given, nameless_given, no_member_more, no_members_given, none_given, nothing_more_given, object_given, one_member_more, one_more_given, other_given, valueless_given}
use Rattle.jsonc_parser.proofs.patch.taking.+take.Goals as goal

pub take-returns-in-Ok : goal.take-returns-in-Ok
take-returns-in-Ok g t c = array_given c.args.tree.now.nodes c.args.node c.in-Ok.elements.items c.from.result (ap content_of (sym c.in-Array.is) ∙ c.kind.ensures) c.in-Ok.ensures c.from.ensures

pub take-returns-in-Ok-take_members : goal.take-returns-in-Ok-take_members
take-returns-in-Ok-take_members g t c = object_given c.args.tree.now.nodes c.args.node c.in-Ok-take_members.members.items c.from-in-Ok-take_members.result (ap content_of (sym c.in-Object.is) ∙ c.kind.ensures) c.in-Ok-take_members.ensures c.from-in-Ok-take_members.ensures

pub take_elements-loop-child-init : goal.take_elements-loop-child-init
take_elements-loop-child-init g t c = (0, c.into_iter-child-iterator.ensures.into_iter_gives ∙ c.children-child-items.ensures.children, none_given c.args.tree.now.nodes _ c.new-elements.result.items refl c.new-elements.ensures.items)

pub take_elements-take-requires : goal.take_elements-take-requires
take_elements-take-requires g t c κs within =
    let ns = c.args.tree.now.nodes in
    let so_far = c.loop-child.invariant in
    let step = given_at so_far.0 (children_at ns c.args.array) c.loop-child.child-iterator c.in-Some.child c.next.new.self so_far.1 c.in-Some.ensures.steps in
    let there : c.in-Some.child < length ns = omega (arith, step.1, c.args.tree.now.tree.in_tree c.args.array so_far.0 step.0) in
    let smaller = child_smaller ns c.args.tree.now.tree c.args.array so_far.0 c.in-Some.child c.requires.in_tree step.0 step.1 in
    (omega (arith, c.decreases, smaller), (within, there))

pub take_elements-loop-child-preserved : goal.take_elements-loop-child-preserved
take_elements-loop-child-preserved g t c =
    let ns = c.args.tree.now.nodes in
    let row : List _ = children_at ns c.args.array in
    let so_far = c.loop-child.invariant in
    let step = given_at so_far.0 row c.loop-child.child-iterator c.in-Some.child c.next.new.self so_far.1 c.in-Some.ensures.steps in
    let child = subst (λ m. GivesAt ns m (option_map plain c.in_ok-value.field-0)) step.1 c.in_ok-value.ensures in
    (so_far.0 + 1, step.2, nothing_more_given ns row so_far.0 step.0 c.loop-child.elements.items c.in_ok-value.field-0 so_far.2 child c.in_default.is)

pub take_elements-loop-child-preserved-in-Continue-branch-3 : goal.take_elements-loop-child-preserved-in-Continue-branch-3
take_elements-loop-child-preserved-in-Continue-branch-3 g t c =
    let ns = c.args.tree.now.nodes in
    let row : List _ = children_at ns c.args.array in
    let so_far = c.loop-child.invariant in
    let step = given_at so_far.0 row c.loop-child.child-iterator c.in-Some.child c.next.new.self so_far.1 c.in-Some.ensures.steps in
    let child = subst (λ m. GivesAt ns m (option_map plain c.in_ok-value.field-0)) step.1 c.in_ok-value.ensures in
    (so_far.0 + 1, step.2, one_more_given ns row so_far.0 step.0 c.loop-child.elements.items c.push.new.self.items c.in_ok-value.field-0 c.in-Some-2.value so_far.2 child c.in-Some-2.is c.in_ok-push.ensures.items)

pub take_elements-returns : goal.take_elements-returns
take_elements-returns g t c =
    let ns = c.args.tree.now.nodes in
    let row : List _ = children_at ns c.args.array in
    subst (λ l. RowGives ns l c.loop-child.elements.items) (all_given c.loop-child.invariant.0 row c.loop-child.child-iterator c.loop-child.invariant.1 c.in-None.ensures.steps.0) c.loop-child.invariant.2

pub take_held-take-requires : goal.take_held-take-requires
take_held-take-requires g t c κs within =
    let ns = c.args.tree.now.nodes in
    let smaller = value_smaller ns c.args.tree.now.tree c.args.node c.in-Some.value c.requires.in_tree (sym c.in-Some.ensures.value) in
    (omega (arith, c.decreases, smaller), (within, c.in-Some.ensures.in_tree))

pub take_held-returns-in-Some : goal.take_held-returns-in-Some
take_held-returns-in-Some g t c = held_given c.args.tree.now.nodes c.args.node c.in-Some.value _ (sym c.in-Some.ensures.value) c.take.ensures

pub take_held-returns-in-None : goal.take_held-returns-in-None
take_held-returns-in-None g t c = no_value_gives c.args.tree.now.nodes c.args.node c.requires.holds (sym c.in-None.ensures.value)

pub take_members-loop-child-init : goal.take_members-loop-child-init
take_members-loop-child-init g t c = (0, c.into_iter-child-iterator.ensures.into_iter_gives ∙ c.children-child-items.ensures.children, no_members_given c.args.tree.now.nodes _ c.new-members.result.items refl c.new-members.ensures.items)

pub take_members-take_member-requires : goal.take_members-take_member-requires
take_members-take_member-requires g t c κs within =
    let ns = c.args.tree.now.nodes in
    let so_far = c.loop-child.invariant in
    let step = given_at so_far.0 (children_at ns c.args.object) c.loop-child.child-iterator c.in-Some.child c.next.new.self so_far.1 c.in-Some.ensures.steps in
    let there : c.in-Some.child < length ns = omega (arith, step.1, c.args.tree.now.tree.in_tree c.args.object so_far.0 step.0) in
    let smaller = child_smaller ns c.args.tree.now.tree c.args.object so_far.0 c.in-Some.child c.requires.in_tree step.0 step.1 in
    (omega (arith, c.decreases, smaller), (within, there))

pub take_members-loop-child-preserved : goal.take_members-loop-child-preserved
take_members-loop-child-preserved g t c =
    let ns = c.args.tree.now.nodes in
    let row : List _ = children_at ns c.args.object in
    let so_far = c.loop-child.invariant in
    let step = given_at so_far.0 row c.loop-child.child-iterator c.in-Some.child c.next.new.self so_far.1 c.in-Some.ensures.steps in
    let child = subst (λ m. GivesMemberAt ns m (option_map named c.in_ok-member.field-0)) step.1 c.in_ok-member.ensures in
    (so_far.0 + 1, step.2, no_member_more ns row so_far.0 step.0 c.loop-child.members.items c.in_ok-member.field-0 so_far.2 child c.in_default.is)

pub take_members-loop-child-preserved-in-Continue-branch-3 : goal.take_members-loop-child-preserved-in-Continue-branch-3
take_members-loop-child-preserved-in-Continue-branch-3 g t c =
    let ns = c.args.tree.now.nodes in
    let row : List _ = children_at ns c.args.object in
    let so_far = c.loop-child.invariant in
    let step = given_at so_far.0 row c.loop-child.child-iterator c.in-Some.child c.next.new.self so_far.1 c.in-Some.ensures.steps in
    let child = subst (λ m. GivesMemberAt ns m (option_map named c.in_ok-member.field-0)) step.1 c.in_ok-member.ensures in
    (so_far.0 + 1, step.2, one_member_more ns row so_far.0 step.0 c.loop-child.members.items c.push.new.self.items c.in_ok-member.field-0 c.in-Some-2.member so_far.2 child c.in-Some-2.is c.in_ok-push.ensures.items)

pub take_members-returns : goal.take_members-returns
take_members-returns g t c =
    let ns = c.args.tree.now.nodes in
    let row : List _ = children_at ns c.args.object in
    subst (λ l. RowGivesMembers ns l c.loop-child.members.items) (all_given c.loop-child.invariant.0 row c.loop-child.child-iterator c.loop-child.invariant.1 c.in-None.ensures.steps.0) c.loop-child.invariant.2

pub take_member-returns-in_default : goal.take_member-returns-in_default
take_member-returns-in_default g t c =
    other_given c.args.tree.now.nodes c.args.child (content_of c.kind.result.now) c.kind.ensures (not_property c.kind.result.now c.in_default.not-Property)

pub take_member-returns-in_default-2 : goal.take_member-returns-in_default-2
take_member-returns-in_default-2 g t c =
    let none = subst (NameReads (HasName c.args.tree.now.nodes c.args.child)) c.in_default-2.is c.in_ok-name.ensures.name in
    nameless_given c.args.tree.now.nodes c.args.child (ap content_of (sym c.in-Property.is) ∙ c.kind.ensures) none

pub take_member-returns-in-Some-2 : goal.take_member-returns-in-Some-2
take_member-returns-in-Some-2 g t c =
    let name = subst (NameReads (HasName c.args.tree.now.nodes c.args.child)) c.in-Some.is c.in_ok-name.ensures.name in
    member_given c.args.tree.now.nodes c.args.child c.in-Some.name c.in-Some-2.value c.in_ok-value.field-0 (ap content_of (sym c.in-Property.is) ∙ c.kind.ensures) name c.in_ok-value.ensures c.in-Some-2.is

pub take_member-returns-in-None : goal.take_member-returns-in-None
take_member-returns-in-None g t c =
    valueless_given c.args.tree.now.nodes c.args.child c.in_ok-value.field-0 (ap content_of (sym c.in-Property.is) ∙ c.kind.ensures) c.in_ok-value.ensures c.in-None.is
