use Rattle.std.proofs.Common.{◌∙◌, ◌+◌, ap, arith, length}
use Rattle.jsonc_tree.specs.Content.{text_of}
use Rattle.jsonc_parser.specs.patch.Room.{bytes_of_first}
use Rattle.jsonc_parser.proofs.lemmas.patch.Room.{past_room}
use Rattle.jsonc_parser.proofs.patch.within.left_after.Goals as goal

pub returns-then-own-left-clause-none : goal.returns-then-own-left-clause-none
returns-then-own-left-clause-none g c =
    let ns = c.args.tree.now.nodes in
    past_room ns (bytes_of_first c.args.first ns + c.args.bytes) c.loop-node.left c.loop-node.node c.own_bytes-own.result c.loop-node.invariant (omega (arith, c.loop-node-test.true, c.len-node-end.ensures.len))
    (c.own_bytes-own.ensures ∙ ap (λ x. length (text_of x)) c.kind.ensures) c.if-own-left.true
