use Rattle.std.proofs.Common.{ap, sym, ◌∙◌}
use Rattle.jsonc_tree.specs.Content.{is_container}
use Rattle.jsonc_tree.specs.Order.{pieces_from}
use Rattle.jsonc_tree.specs.Stored.{nodes_of}
use Rattle.jsonc_tree.proofs.PieceList.{pieces_pass}
use Rattle.jsonc_tree.proofs.pieces.leaf_from.Goals as goal

pub loop-next-preserved : goal.loop-next-preserved
loop-next-preserved g c =
    let ns = nodes_of c.args.nodes.now.items in
    record {
      in_tree = c.node_after-next.ensures.in_tree;
      over = c.node_after-next.ensures.over;
      same = c.loop-next.invariant.same ∙ ap (pieces_from ns) c.in-Some.is ∙ pieces_pass ns c.in-Some.n c.node_after-next.result c.node_after-next.ensures.rest (ap is_container (sym c.kind_of.ensures) ∙ sym c.is_container.ensures ∙ c.if-not-is_container.false);
    }
