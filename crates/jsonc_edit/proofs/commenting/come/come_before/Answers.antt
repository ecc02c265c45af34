use Rattle.jsonc_tree.specs.Tree.{place_at}
use Rattle.jsonc_edit.proofs.SpacePlaces.{gap_before}
use Rattle.jsonc_edit.proofs.commenting.come.come_before.Goals as goal

pub insert_between-requires-clause-can : goal.insert_between-requires-clause-can
insert_between-requires-clause-can g c = (
  place_at c.args.tree.now.nodes c.args.node,
  gap_before c.args.tree.now.nodes c.args.tree.now.tree c.args.node c.args.container c.previous_sibling-before.result c.requires.child c.previous_sibling-before.ensures,
  c.requires.join,
)

pub returns : goal.returns
returns g c =
    c.insert_between.ensures.fills (place_at c.args.tree.now.nodes c.args.node)
    (gap_before c.args.tree.now.nodes c.args.tree.now.tree c.args.node c.args.container c.previous_sibling-before.result c.requires.child c.previous_sibling-before.ensures)
