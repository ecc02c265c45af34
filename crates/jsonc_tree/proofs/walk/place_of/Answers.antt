use Rattle.std.proofs.Common.{◌≡◌, ◌+◌, ◌-◌, ◌<◌, arith, sym, ap, ◌∙◌}
use Rattle.jsonc_tree.specs.Tree.{parent_at, place_at}
use Rattle.jsonc_tree.specs.Stored.{nodes_of}
use Rattle.jsonc_tree.specs.Siblings.{before}
use Rattle.jsonc_tree.proofs.AgreeingLinks.{length_shown}
use Rattle.jsonc_tree.proofs.LinkSteps.{row_under, start_back, back_more, front_reached, place_short}
use Rattle.jsonc_tree.proofs.walk.place_of.Goals as goal

pub loop-at-init : goal.loop-at-init
loop-at-init g c =
    let none : place_at (nodes_of c.args.nodes.now.items) c.args.n ≡ place_at (nodes_of c.args.nodes.now.items) c.args.n - 0 = omega arith in
    record {
      stands = c.previous_of-at.ensures ∙ start_back c.args.nodes.now.items c.requires.stored c.args.n ∙ ap (before (row_under (nodes_of c.args.nodes.now.items) (parent_at (nodes_of c.args.nodes.now.items) c.args.n))) none;
      within = omega arith;
    }

pub overflow_add-count : goal.overflow_add-count
overflow_add-count g c =
    let more = back_more c.args.nodes.now.items c.requires.stored c.args.n (place_at (nodes_of c.args.nodes.now.items) c.args.n - c.loop-at.count) c.in-Some.m (sym c.loop-at.invariant.stands ∙ c.in-Some.is) in
    omega (arith, more.0, place_short c.args.nodes.now.items c.requires.stored c.args.n, length_shown c.args.nodes.now.items, c.args.nodes.now.ok)

pub previous_of-at-requires-in-Some : goal.previous_of-at-requires-in-Some
previous_of-at-requires-in-Some g c =
    let more = back_more c.args.nodes.now.items c.requires.stored c.args.n (place_at (nodes_of c.args.nodes.now.items) c.args.n - c.loop-at.count) c.in-Some.m (sym c.loop-at.invariant.stands ∙ c.in-Some.is) in
    omega (arith, more.1, length_shown c.args.nodes.now.items, c.args.nodes.now.ok.0)

pub loop-at-smaller : goal.loop-at-smaller
loop-at-smaller g c =
    let more = back_more c.args.nodes.now.items c.requires.stored c.args.n (place_at (nodes_of c.args.nodes.now.items) c.args.n - c.loop-at.count) c.in-Some.m (sym c.loop-at.invariant.stands ∙ c.in-Some.is) in
    let less : place_at (nodes_of c.args.nodes.now.items) c.args.n - (c.loop-at.count + 1) < place_at (nodes_of c.args.nodes.now.items) c.args.n - c.loop-at.count = omega (arith, more.0) in
    less

pub loop-at-preserved : goal.loop-at-preserved
loop-at-preserved g c =
    let more = back_more c.args.nodes.now.items c.requires.stored c.args.n (place_at (nodes_of c.args.nodes.now.items) c.args.n - c.loop-at.count) c.in-Some.m (sym c.loop-at.invariant.stands ∙ c.in-Some.is) in
    let one : (place_at (nodes_of c.args.nodes.now.items) c.args.n - c.loop-at.count) - 1 ≡ place_at (nodes_of c.args.nodes.now.items) c.args.n - (c.loop-at.count + 1) = omega arith in
    record {
      stands = c.previous_of-at-in-Some.ensures ∙ more.2 ∙ ap (before (row_under (nodes_of c.args.nodes.now.items) (parent_at (nodes_of c.args.nodes.now.items) c.args.n))) one;
      within = omega (arith, more.0);
    }

pub returns : goal.returns
returns g c =
    omega (arith, c.loop-at.invariant.within, front_reached c.args.nodes.now.items c.requires.stored c.args.n (place_at (nodes_of c.args.nodes.now.items) c.args.n - c.loop-at.count) (omega arith) (sym c.loop-at.invariant.stands ∙ c.in_default.is))
