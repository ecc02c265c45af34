use Rattle.std.proofs.Common.{◌≡◌, ◌+◌, ◌-◌, ◌<◌, ℕ, List, length, suc, Some, slice_get, arith, sym, ap, ◌∙◌, vec_len}
use Rattle.std.proofs.lemmas.Option.{slice_get_within}
use Rattle.jsonc_tree.specs.Tree.{children_at}
use Rattle.jsonc_tree.specs.Stored.{nodes_of}
use Rattle.jsonc_tree.proofs.AgreeingLinks.{row_short, length_shown}
use Rattle.jsonc_tree.proofs.LinkSteps.{next_step, step_there, none_at}
use Rattle.jsonc_tree.proofs.walk.count_of.Goals as goal

pub overflow_add-count : goal.overflow_add-count
overflow_add-count g c =
    let row : List ℕ = children_at (nodes_of c.args.nodes.now.items) c.args.c in
    omega (arith, slice_get_within row c.loop-at.count c.in-Some.n (sym c.loop-at.invariant.stands ∙ c.in-Some.is), row_short (nodes_of c.args.nodes.now.items) c.requires.stored.tree c.args.c, length_shown c.args.nodes.now.items, c.args.nodes.now.ok)

pub next_of-at-requires : goal.next_of-at-requires
next_of-at-requires g c = step_there c.args.nodes.now.items c.requires.stored c.args.c c.loop-at.count c.in-Some.n (vec_len c.args.nodes.now) (sym c.loop-at.invariant.stands ∙ c.in-Some.is) (omega (arith, length_shown c.args.nodes.now.items, c.args.nodes.now.ok.0))

pub loop-at-smaller : goal.loop-at-smaller
loop-at-smaller g c =
    let row : List ℕ = children_at (nodes_of c.args.nodes.now.items) c.args.c in
    let within = slice_get_within row c.loop-at.count c.in-Some.n (sym c.loop-at.invariant.stands ∙ c.in-Some.is) in
    let less : length row - (c.loop-at.count + 1) < length row - c.loop-at.count = omega (arith, within) in
    less

pub loop-at-preserved : goal.loop-at-preserved
loop-at-preserved g c =
    let row : List ℕ = children_at (nodes_of c.args.nodes.now.items) c.args.c in
    let stands : slice_get row c.loop-at.count ≡ Some c.in-Some.n = sym c.loop-at.invariant.stands ∙ c.in-Some.is in
    let one : suc c.loop-at.count ≡ c.loop-at.count + 1 = omega arith in
    record {
      stands = c.next_of-at.ensures ∙ next_step c.args.nodes.now.items c.requires.stored c.args.c c.loop-at.count c.in-Some.n stands ∙ ap (slice_get row) one;
      within = omega (arith, slice_get_within row c.loop-at.count c.in-Some.n stands);
    }

pub returns : goal.returns
returns g c =
    let row : List ℕ = children_at (nodes_of c.args.nodes.now.items) c.args.c in
    omega (arith, c.loop-at.invariant.within, none_at row c.loop-at.count (sym c.loop-at.invariant.stands ∙ c.in_default.is))
