use Rattle.jsonc_tree.specs.Tree.{place_at}
use Rattle.std.proofs.Common.{◌+◌}
use Rattle.jsonc_edit.proofs.RowEnds.{gap_after}
use Rattle.jsonc_insert.proofs.neighbours.insert_after.Goals as goal

pub insert_between-requires-clause-can : goal.insert_between-requires-clause-can
insert_between-requires-clause-can g c =
    let ns = c.args.tree.now.nodes in (
      place_at ns c.args.node + 1,
      gap_after ns c.args.tree.now.tree c.args.node c.args.container c.next_sibling-behind.result c.requires.child c.next_sibling-behind.ensures,
      c.requires.join,
    )

pub returns : goal.returns
returns g c =
    let ns = c.args.tree.now.nodes in
    record {
      splices = c.insert_between.ensures.fills (place_at ns c.args.node + 1) (gap_after ns c.args.tree.now.tree c.args.node c.args.container c.next_sibling-behind.result c.requires.child c.next_sibling-behind.ensures);
    }
