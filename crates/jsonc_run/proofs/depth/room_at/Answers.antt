use Rattle.std.proofs.Common.{◌≡◌, ◌∙◌, false, true, length, refl, sym, ap, arith}
use Rattle.jsonc_tree.proofs.Order.{parent_within}
use Rattle.jsonc_layout.proofs.lemmas.lines.NodesAbove.{climb_smaller}
use Rattle.jsonc_run.specs.Depth.{is_nesting, is_nesting_at}
use Rattle.jsonc_run.proofs.Rooms.{counted, counts_end, counts_none, counts_one}
use Rattle.jsonc_run.proofs.depth.room_at.Goals as goal

pub loop-next-init : goal.loop-next-init
loop-next-init g c =
    let ns = c.args.tree.now.nodes in
    record {
      in_tree = parent_within ns c.args.tree.now.tree c.args.node (length ns) c.parent-next.result c.parent-next.ensures refl;
      room = omega (arith, ap (counted ns c.args.tree.now.tree) c.parent-next.ensures);
    }

pub loop-next-smaller-then-not-is_nesting : goal.loop-next-smaller-then-not-is_nesting
loop-next-smaller-then-not-is_nesting g c = climb_smaller c.args.tree.now.nodes c.args.tree.now.tree c.loop-next.next c.in-Some.above c.parent-next-in-Some.result c.in-Some.is c.parent-next-in-Some.ensures

pub loop-next-preserved-then-not-is_nesting : goal.loop-next-preserved-then-not-is_nesting
loop-next-preserved-then-not-is_nesting g c =
    let ns = c.args.tree.now.nodes in
    let not_so : is_nesting_at ns c.in-Some.above ≡ false = sym (ap is_nesting c.kind.ensures) ∙ sym c.is_nesting.ensures ∙ c.if-not-is_nesting.true in
    let one = counts_none ns c.args.tree.now.tree c.loop-next.next c.in-Some.above c.parent-next-in-Some.result c.in-Some.is c.loop-next.invariant.in_tree c.parent-next-in-Some.ensures not_so in
    record {
      in_tree = parent_within ns c.args.tree.now.tree c.in-Some.above (length ns) c.parent-next-in-Some.result c.parent-next-in-Some.ensures refl;
      room = omega (arith, c.loop-next.invariant.room, one);
    }

pub returns-then-room-eq0-clause-none : goal.returns-then-room-eq0-clause-none
returns-then-room-eq0-clause-none g c =
    let ns = c.args.tree.now.nodes in
    let so : is_nesting_at ns c.in-Some.above ≡ true = sym (ap is_nesting c.kind.ensures) ∙ sym c.is_nesting.ensures ∙ c.if-not-is_nesting.false in
    let one = counts_one ns c.args.tree.now.tree c.loop-next.next c.in-Some.above c.parent-next-in-Some.result c.in-Some.is c.loop-next.invariant.in_tree c.parent-next-in-Some.ensures so in
    omega (arith, c.loop-next.invariant.room, one, c.if-room-eq0.true)

pub loop-next-smaller : goal.loop-next-smaller
loop-next-smaller g c = climb_smaller c.args.tree.now.nodes c.args.tree.now.tree c.loop-next.next c.in-Some.above c.parent-next-in-Some.result c.in-Some.is c.parent-next-in-Some.ensures

pub loop-next-preserved : goal.loop-next-preserved
loop-next-preserved g c =
    let ns = c.args.tree.now.nodes in
    let so : is_nesting_at ns c.in-Some.above ≡ true = sym (ap is_nesting c.kind.ensures) ∙ sym c.is_nesting.ensures ∙ c.if-not-is_nesting.false in
    let one = counts_one ns c.args.tree.now.tree c.loop-next.next c.in-Some.above c.parent-next-in-Some.result c.in-Some.is c.loop-next.invariant.in_tree c.parent-next-in-Some.ensures so in
    record {
      in_tree = parent_within ns c.args.tree.now.tree c.in-Some.above (length ns) c.parent-next-in-Some.result c.parent-next-in-Some.ensures refl;
      room = omega (arith, c.loop-next.invariant.room, one, c.if-room-eq0.false);
    }

pub returns-clause-room : goal.returns-clause-room
returns-clause-room g c = omega (arith, c.loop-next.invariant.room, counts_end c.args.tree.now.nodes c.args.tree.now.tree c.loop-next.next c.in_default.is)
