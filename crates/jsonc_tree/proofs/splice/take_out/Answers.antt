use Rattle.std.proofs.Common.{None, arith, vec_len}
use Rattle.jsonc_tree.specs.Stored.{nodes_of}
use Rattle.jsonc_tree.proofs.AgreeingLinks.{length_shown}
use Rattle.jsonc_tree.proofs.AlikeNodes.{container_linked, container_ahead}
use Rattle.jsonc_tree.proofs.Moves.{counts_one, in_memory, in_row, goes_by, three, previous_there, next_there}
use Rattle.jsonc_tree.proofs.splice.take_out.Goals as goal

pub set_ahead-requires-clause-in_tree : goal.set_ahead-requires-clause-in_tree
set_ahead-requires-clause-in_tree g c = omega (arith, (in_row (nodes_of c.args.nodes.now.items) c.requires.stored.tree c.args.x c.args.c c.requires.child).0, length_shown c.args.nodes.now.items, c.args.nodes.now.ok.0)

pub set_ahead-requires-clause-before : goal.set_ahead-requires-clause-before
set_ahead-requires-clause-before g c = previous_there c.args.nodes.now.items c.requires.stored c.args.x c.args.c (vec_len c.args.nodes.now) c.previous_of-before.result c.requires.child c.previous_of-before.ensures (omega (arith, length_shown c.args.nodes.now.items, c.args.nodes.now.ok.0))

pub set_back-requires-clause-in_tree : goal.set_back-requires-clause-in_tree
set_back-requires-clause-in_tree g c = omega (arith, (in_row (nodes_of c.args.nodes.now.items) c.requires.stored.tree c.args.x c.args.c c.requires.child).0, length_shown c.args.nodes.now.items, c.args.nodes.now.ok.0, c.set_ahead.ensures.len)

pub set_back-requires-clause-behind : goal.set_back-requires-clause-behind
set_back-requires-clause-behind g c = next_there c.args.nodes.now.items c.requires.stored c.args.x c.args.c (vec_len c.set_ahead.new.nodes) c.next_of-behind.result c.requires.child c.next_of-behind.ensures (omega (arith, length_shown c.args.nodes.now.items, c.args.nodes.now.ok.0, c.set_ahead.ensures.len))

pub returns-clause-gone : goal.returns-clause-gone
returns-clause-gone g c =
    (goes_by c.args.nodes.now.items c.requires.stored c.set_ahead.new.nodes.items c.set_back.new.nodes.items c.set_place.new.nodes.items c.count_out.new.nodes.items c.args.c c.args.x c.previous_of-before.result c.next_of-behind.result c.is_newline-newline.result c.set_ahead.ensures.nodes c.set_back.ensures.nodes c.set_place.ensures.nodes c.is_newline-newline.ensures c.count_out.ensures.nodes c.requires.child c.previous_of-before.ensures c.next_of-behind.ensures).0

pub returns-clause-stored : goal.returns-clause-stored
returns-clause-stored g c =
    (goes_by c.args.nodes.now.items c.requires.stored c.set_ahead.new.nodes.items c.set_back.new.nodes.items c.set_place.new.nodes.items c.count_out.new.nodes.items c.args.c c.args.x c.previous_of-before.result c.next_of-behind.result c.is_newline-newline.result c.set_ahead.ensures.nodes c.set_back.ensures.nodes c.set_place.ensures.nodes c.is_newline-newline.ensures c.count_out.ensures.nodes c.requires.child c.previous_of-before.ensures c.next_of-behind.ensures).1

pub set_ahead-requires-clause-to : goal.set_ahead-requires-clause-to
set_ahead-requires-clause-to g c = in_memory c.next_of-behind.result (vec_len c.args.nodes.now) (next_there c.args.nodes.now.items c.requires.stored c.args.x c.args.c (vec_len c.args.nodes.now) c.next_of-behind.result c.requires.child c.next_of-behind.ensures (omega (arith, length_shown c.args.nodes.now.items, c.args.nodes.now.ok.0))) (omega (arith, c.requires.stored.few, c.args.nodes.now.ok.0))

pub set_back-requires-clause-to : goal.set_back-requires-clause-to
set_back-requires-clause-to g c = in_memory c.previous_of-before.result (vec_len c.args.nodes.now) (previous_there c.args.nodes.now.items c.requires.stored c.args.x c.args.c (vec_len c.args.nodes.now) c.previous_of-before.result c.requires.child c.previous_of-before.ensures (omega (arith, length_shown c.args.nodes.now.items, c.args.nodes.now.ok.0))) (omega (arith, c.requires.stored.few, c.args.nodes.now.ok.0))

pub set_ahead-requires-clause-container : goal.set_ahead-requires-clause-container
set_ahead-requires-clause-container g c =
    let row = in_row (nodes_of c.args.nodes.now.items) c.requires.stored.tree c.args.x c.args.c c.requires.child in
    container_linked c.args.nodes.now.items c.args.c (omega (arith, row.0, length_shown c.args.nodes.now.items)) row.1

pub set_back-requires-clause-container : goal.set_back-requires-clause-container
set_back-requires-clause-container g c =
    let row = in_row (nodes_of c.args.nodes.now.items) c.requires.stored.tree c.args.x c.args.c c.requires.child in
    container_ahead c.args.nodes.now.items c.set_ahead.new.nodes.items c.args.c c.previous_of-before.result c.next_of-behind.result c.set_ahead.ensures.nodes
    (container_linked c.args.nodes.now.items c.args.c (omega (arith, row.0, length_shown c.args.nodes.now.items)) row.1)

pub count_out-requires-clause-in_tree : goal.count_out-requires-clause-in_tree
count_out-requires-clause-in_tree g c = omega (arith, (in_row (nodes_of c.args.nodes.now.items) c.requires.stored.tree c.args.x c.args.c c.requires.child).0, length_shown c.args.nodes.now.items, c.args.nodes.now.ok.0, c.set_ahead.ensures.len, c.set_back.ensures.len, c.set_place.ensures.len)

pub count_out-requires-clause-counted : goal.count_out-requires-clause-counted
count_out-requires-clause-counted g c =
    counts_one c.args.nodes.now.items c.requires.stored c.args.c c.args.x c.previous_of-before.result c.next_of-behind.result c.next_of-behind.result c.previous_of-before.result None None None c.set_place.new.nodes.items (three c.args.nodes.now.items c.set_ahead.new.nodes.items c.set_back.new.nodes.items c.set_place.new.nodes.items c.args.c c.args.x c.previous_of-before.result c.next_of-behind.result c.next_of-behind.result c.previous_of-before.result None None None c.set_ahead.ensures.nodes c.set_back.ensures.nodes c.set_place.ensures.nodes) c.is_newline-newline.result c.requires.child c.is_newline-newline.ensures
