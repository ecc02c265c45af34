use Rattle.jsonc_build.proofs.AddedChildren.{leaf_added_to}
use Rattle.jsonc_build.proofs.GapLeaves.{comment_at}
use Rattle.jsonc_build.proofs.Parts.{part_of_same}
use Rattle.jsonc_build.proofs.fill.push_comment.Goals as goal

pub returns-clause-added : goal.returns-clause-added
returns-clause-added g c =
    let ends = c.in-Some.ensures.found in
    let room = c.make_room.ensures in
    leaf_added_to room.nodes room.container c.in_ok-push.ensures.pushes
    (comment_at c.args.text.now c.args.place c.in-Some.end _ c.utf8.text c.requires.place ends.boundary ends.order ends.piece (part_of_same _ _ _ c.in_ok-comment.ensures c.requires.whole))
