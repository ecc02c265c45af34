use Rattle.std.proofs.Common.{◌+◌}
use Rattle.jsonc_tree.specs.Tree.{place_at}
use Rattle.jsonc_edit.proofs.commenting.come.come_behind.Goals as goal
use Rattle.jsonc_edit.proofs.RowEnds.{gap_after}

pub insert_between-requires-clause-can : goal.insert_between-requires-clause-can
insert_between-requires-clause-can g c = (
  place_at c.args.tree.now.nodes c.args.node + 1,
  gap_after c.args.tree.now.nodes c.args.tree.now.tree c.args.node c.args.container c.next_sibling-behind.result c.requires.child c.next_sibling-behind.ensures,
  c.requires.join,
)

pub returns : goal.returns
returns g c =
    c.insert_between.ensures.fills (place_at c.args.tree.now.nodes c.args.node + 1)
    (gap_after c.args.tree.now.nodes c.args.tree.now.tree c.args.node c.args.container c.next_sibling-behind.result c.requires.child c.next_sibling-behind.ensures)
