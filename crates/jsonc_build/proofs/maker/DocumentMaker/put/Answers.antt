use Rattle.std.proofs.Common.{◌∙◌, ap, length}
use Rattle.jsonc_tree.specs.Growing.{nodes_so_far}
use Rattle.jsonc_tree.specs.Stored.{content_of}
use Rattle.jsonc_build.proofs.AddedChildren.{pushes_from}
use Rattle.jsonc_build.proofs.Building.{ok_both, put_here}
use Rattle.jsonc_build.proofs.maker.DocumentMaker.put.Goals as goal

pub returns-clause-put : goal.returns-clause-put
returns-clause-put g c =
    let room = c.make_room.ensures in
    ok_both c.push.result
    (λ n number pushes. put_here c.args.self.now (nodes_so_far c.push.new.self) c.args.start n (content_of c.args.kind) c.requires.reached c.requires.boundary (pushes_from room.nodes room.container pushes) (number ∙ ap length room.nodes))
    c.push.ensures.number c.push.ensures.pushes
