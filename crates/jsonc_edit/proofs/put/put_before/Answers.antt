use Rattle.jsonc_tree.proofs.Appending.{CanJoin-one}
use Rattle.jsonc_tree.specs.Tree.{place_at}
use Rattle.jsonc_edit.proofs.SpacePlaces.{may_come, gap_before}
use Rattle.jsonc_edit.proofs.put.put_before.Goals as goal

pub insert_between-requires-clause-in_tree : goal.insert_between-requires-clause-in_tree
insert_between-requires-clause-in_tree g c = (may_come c.args.tree.now.nodes c.args.tree.now.tree c.args.space.node c.args.container c.args.space.leaf c.requires.child c.requires.space).container

pub insert_between-requires-clause-container : goal.insert_between-requires-clause-container
insert_between-requires-clause-container g c = (may_come c.args.tree.now.nodes c.args.tree.now.tree c.args.space.node c.args.container c.args.space.leaf c.requires.child c.requires.space).holds

pub insert_between-requires-clause-can : goal.insert_between-requires-clause-can
insert_between-requires-clause-can g c =
    let ns = c.args.tree.now.nodes in
    let place = place_at ns c.args.space.node in
    let can = may_come ns c.args.tree.now.tree c.args.space.node c.args.container c.args.space.leaf c.requires.child c.requires.space in (
      place,
      gap_before ns c.args.tree.now.tree c.args.space.node c.args.container c.previous_sibling-before.result c.requires.child c.previous_sibling-before.ensures,
      CanJoin-one ns c.args.space.leaf c.args.container place place can.node can.not_root can.alone can.not_over,
    )

pub returns : goal.returns
returns g c =
    let ns = c.args.tree.now.nodes in
    let gap = gap_before ns c.args.tree.now.tree c.args.space.node c.args.container c.previous_sibling-before.result c.requires.child c.previous_sibling-before.ensures in
    record {
      put = record {
        container = c.args.container;
        parent = c.requires.child;
        was = c.requires.space;
        put = c.insert_between.ensures.fills (place_at ns c.args.space.node) gap;
        tree = c.insert_between.new.self.tree;
      };
    }
