use Rattle.std.proofs.Common.{Some, arith, vec_len}
use Rattle.jsonc_tree.proofs.AgreeingLinks.{length_shown}
use Rattle.jsonc_tree.proofs.AlikeNodes.{container_linked, container_ahead}
use Rattle.jsonc_tree.proofs.Moves.{counts_few, in_memory, comes_by, three, gap_front_there, gap_back_there}
use Rattle.jsonc_tree.proofs.splice.put_between.Goals as goal

pub set_ahead-requires-clause-in_tree : goal.set_ahead-requires-clause-in_tree
set_ahead-requires-clause-in_tree g c = omega (arith, c.requires.can.container, length_shown c.args.nodes.now.items, c.args.nodes.now.ok.0)

pub set_ahead-requires-clause-before : goal.set_ahead-requires-clause-before
set_ahead-requires-clause-before g c = gap_front_there c.args.nodes.now.items c.requires.stored c.args.c c.requires.gap.0 (vec_len c.args.nodes.now) c.args.before c.args.behind c.requires.gap.1 (omega (arith, length_shown c.args.nodes.now.items, c.args.nodes.now.ok.0))

pub set_back-requires-clause-in_tree : goal.set_back-requires-clause-in_tree
set_back-requires-clause-in_tree g c = omega (arith, c.requires.can.container, length_shown c.args.nodes.now.items, c.args.nodes.now.ok.0, c.set_ahead.ensures.len)

pub set_back-requires-clause-behind : goal.set_back-requires-clause-behind
set_back-requires-clause-behind g c = gap_back_there c.args.nodes.now.items c.requires.stored c.args.c c.requires.gap.0 (vec_len c.set_ahead.new.nodes) c.args.before c.args.behind c.requires.gap.1 (omega (arith, length_shown c.args.nodes.now.items, c.args.nodes.now.ok.0, c.set_ahead.ensures.len))

pub returns-clause-fills : goal.returns-clause-fills
returns-clause-fills g c = λ k gap.
    (comes_by c.args.nodes.now.items c.requires.stored c.set_ahead.new.nodes.items c.set_back.new.nodes.items c.set_place.new.nodes.items c.count_in.new.nodes.items c.args.c k c.args.x c.args.before c.args.behind c.is_newline-newline.result c.set_ahead.ensures.nodes c.set_back.ensures.nodes c.set_place.ensures.nodes c.is_newline-newline.ensures c.count_in.ensures.nodes c.requires.can gap).0

pub returns-clause-stored : goal.returns-clause-stored
returns-clause-stored g c =
    (comes_by c.args.nodes.now.items c.requires.stored c.set_ahead.new.nodes.items c.set_back.new.nodes.items c.set_place.new.nodes.items c.count_in.new.nodes.items c.args.c c.requires.gap.0 c.args.x c.args.before c.args.behind c.is_newline-newline.result c.set_ahead.ensures.nodes c.set_back.ensures.nodes c.set_place.ensures.nodes c.is_newline-newline.ensures c.count_in.ensures.nodes c.requires.can c.requires.gap.1).1

pub set_place-requires-clause-previous : goal.set_place-requires-clause-previous
set_place-requires-clause-previous g c = in_memory c.args.before (vec_len c.args.nodes.now) (gap_front_there c.args.nodes.now.items c.requires.stored c.args.c c.requires.gap.0 (vec_len c.args.nodes.now) c.args.before c.args.behind c.requires.gap.1 (omega (arith, length_shown c.args.nodes.now.items, c.args.nodes.now.ok.0))) (omega (arith, c.requires.stored.few, c.args.nodes.now.ok.0))

pub set_place-requires-clause-next : goal.set_place-requires-clause-next
set_place-requires-clause-next g c = in_memory c.args.behind (vec_len c.args.nodes.now) (gap_back_there c.args.nodes.now.items c.requires.stored c.args.c c.requires.gap.0 (vec_len c.args.nodes.now) c.args.before c.args.behind c.requires.gap.1 (omega (arith, length_shown c.args.nodes.now.items, c.args.nodes.now.ok.0))) (omega (arith, c.requires.stored.few, c.args.nodes.now.ok.0))

pub set_ahead-requires-clause-container : goal.set_ahead-requires-clause-container
set_ahead-requires-clause-container g c = container_linked c.args.nodes.now.items c.args.c (omega (arith, c.requires.can.container, length_shown c.args.nodes.now.items)) c.requires.can.holds

pub set_back-requires-clause-container : goal.set_back-requires-clause-container
set_back-requires-clause-container g c = container_ahead c.args.nodes.now.items c.set_ahead.new.nodes.items c.args.c c.args.before (Some c.args.x) c.set_ahead.ensures.nodes (container_linked c.args.nodes.now.items c.args.c (omega (arith, c.requires.can.container, length_shown c.args.nodes.now.items)) c.requires.can.holds)

pub set_ahead-requires-clause-to : goal.set_ahead-requires-clause-to
set_ahead-requires-clause-to g c = omega (arith, c.requires.can.node, c.requires.stored.few, length_shown c.args.nodes.now.items)

pub set_back-requires-clause-to : goal.set_back-requires-clause-to
set_back-requires-clause-to g c = omega (arith, c.requires.can.node, c.requires.stored.few, length_shown c.args.nodes.now.items)

pub set_place-requires-clause-parent : goal.set_place-requires-clause-parent
set_place-requires-clause-parent g c = omega (arith, c.requires.can.container, c.requires.stored.few, length_shown c.args.nodes.now.items)

pub count_in-requires-clause-fits : goal.count_in-requires-clause-fits
count_in-requires-clause-fits g c =
    counts_few c.args.nodes.now.items c.requires.stored c.args.c c.args.x c.args.before c.args.behind (Some c.args.x) (Some c.args.x) (Some c.args.c) c.args.before c.args.behind c.set_place.new.nodes.items (three c.args.nodes.now.items c.set_ahead.new.nodes.items c.set_back.new.nodes.items c.set_place.new.nodes.items c.args.c c.args.x c.args.before c.args.behind (Some c.args.x) (Some c.args.x) (Some c.args.c) c.args.before c.args.behind c.set_ahead.ensures.nodes c.set_back.ensures.nodes c.set_place.ensures.nodes)
