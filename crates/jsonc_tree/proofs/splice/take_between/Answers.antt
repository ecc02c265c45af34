use Rattle.std.proofs.Common.{◌+◌, ◌-◌, ◌<◌, [], arith, refl, subst, sym, ◌∙◌}
use Rattle.jsonc_tree.specs.Tree.{place_at}
use Rattle.jsonc_tree.specs.Changes.{Splices}
use Rattle.jsonc_tree.specs.Stored.{nodes_of}
use Rattle.jsonc_tree.proofs.Returned.{stretch_at, stretch_more, stretch_next, stretch_step}
use Rattle.jsonc_tree.proofs.Stretches.{Splices-none}
use Rattle.jsonc_tree.proofs.splice.take_between.Goals as goal

pub loop-at-init : goal.loop-at-init
loop-at-init g c =
    let old = nodes_of c.args.nodes.now.items in
    record {
      splices = Splices-none old c.args.c (place_at old c.args.first) (omega (arith, c.requires.stored.tree.within c.args.first c.args.c c.requires.stretch.front));
      child = c.requires.stretch.front;
      from = omega arith;
      to = c.requires.stretch.order;
      stored = c.requires.stored;
      len = refl;
    }

pub unreachable-requires : goal.unreachable-requires
unreachable-requires g c =
    let old = nodes_of c.args.nodes.now.items in
    let inv = c.loop-at.invariant in
    let at = stretch_at c.loop-at.nodes.items c.loop-at.nodes.items inv.stored old c.args.c (place_at old c.args.first) c.loop-at.at c.requires.stored.tree inv.from inv.child inv.splices in
    (stretch_more old c.requires.stored.tree c.args.c c.loop-at.at c.args.last inv.child c.requires.stretch.back inv.to c.loop-at-test.true).1 (sym at.1 ∙ sym c.next_of.ensures ∙ c.in_default.is)

pub take_out-requires-clause-child : goal.take_out-requires-clause-child
take_out-requires-clause-child g c =
    let old = nodes_of c.args.nodes.now.items in
    let inv = c.loop-at.invariant in
    (stretch_at c.loop-at.nodes.items c.loop-at.nodes.items inv.stored old c.args.c (place_at old c.args.first) c.loop-at.at c.requires.stored.tree inv.from inv.child inv.splices).2

pub loop-at-smaller : goal.loop-at-smaller
loop-at-smaller g c =
    let old = nodes_of c.args.nodes.now.items in
    let inv = c.loop-at.invariant in
    let at = stretch_at c.loop-at.nodes.items c.loop-at.nodes.items inv.stored old c.args.c (place_at old c.args.first) c.loop-at.at c.requires.stored.tree inv.from inv.child inv.splices in
    let next = stretch_next old c.requires.stored.tree c.args.c (place_at old c.loop-at.at + 1) c.in-Some.next (sym at.1 ∙ sym c.next_of.ensures ∙ c.in-Some.is) in
    let more = stretch_more old c.requires.stored.tree c.args.c c.loop-at.at c.args.last inv.child c.requires.stretch.back inv.to c.loop-at-test.true in
    let less : place_at old c.args.last - place_at old c.in-Some.next < place_at old c.args.last - place_at old c.loop-at.at = omega (arith, next.1, more.0) in
    less

pub loop-at-preserved : goal.loop-at-preserved
loop-at-preserved g c =
    let old = nodes_of c.args.nodes.now.items in
    let inv = c.loop-at.invariant in
    let first = place_at old c.args.first in
    let at = stretch_at c.loop-at.nodes.items c.take_out.new.nodes.items inv.stored old c.args.c first c.loop-at.at c.requires.stored.tree inv.from inv.child inv.splices in
    let next = stretch_next old c.requires.stored.tree c.args.c (place_at old c.loop-at.at + 1) c.in-Some.next (sym at.1 ∙ sym c.next_of.ensures ∙ c.in-Some.is) in
    let more = stretch_more old c.requires.stored.tree c.args.c c.loop-at.at c.args.last inv.child c.requires.stretch.back inv.to c.loop-at-test.true in
    let step = stretch_step c.loop-at.nodes.items c.take_out.new.nodes.items inv.stored old c.args.c first c.loop-at.at c.requires.stored.tree inv.from inv.child inv.splices c.take_out.ensures.gone in
    record {
      splices = subst (λ k. Splices old (nodes_of c.take_out.new.nodes.items) c.args.c first k []) (sym next.1) step;
      child = next.0;
      from = omega (arith, next.1, inv.from);
      to = omega (arith, next.1, more.0);
      stored = c.take_out.ensures.stored;
      len = c.take_out.ensures.len ∙ inv.len;
    }

pub take_out-requires-2-clause-child : goal.take_out-requires-2-clause-child
take_out-requires-2-clause-child g c =
    let old = nodes_of c.args.nodes.now.items in
    let inv = c.loop-at.invariant in
    (stretch_at c.loop-at.nodes.items c.loop-at.nodes.items inv.stored old c.args.c (place_at old c.args.first) c.loop-at.at c.requires.stored.tree inv.from inv.child inv.splices).2

pub returns-clause-gone : goal.returns-clause-gone
returns-clause-gone g c =
    let old = nodes_of c.args.nodes.now.items in
    let inv = c.loop-at.invariant in
    let first = place_at old c.args.first in
    let step = stretch_step c.loop-at.nodes.items c.take_out-2.new.nodes.items inv.stored old c.args.c first c.loop-at.at c.requires.stored.tree inv.from inv.child inv.splices c.take_out-2.ensures.gone in
    subst (λ n. Splices old (nodes_of c.take_out-2.new.nodes.items) c.args.c first (place_at old n + 1) []) c.loop-at-test.false step
