use Rattle.std.proofs.Common.{ap}
use Rattle.jsonc_tree.specs.Stored.{content_of}
use Rattle.jsonc_build.proofs.AddedChildren.{pushes_same}
use Rattle.jsonc_build.proofs.Building.{container_opened}
use Rattle.jsonc_build.proofs.maker.DocumentMaker.open.Goals as goal

pub returns-clause-held : goal.returns-clause-held
returns-clause-held g c =
    let node = c.in_ok-node.ensures in
    let push = c.in_ok-push.ensures in
    container_opened c.args.self.now c.put.new.self c.enter.new.self c.push.new.self c.args.start c.args.start c.in_ok-node.node (content_of c.args.kind) c.args.bracket c.requires.follows.reached node.rest node.put
    c.enter.ensures.nodes c.enter.ensures.container push.container (pushes_same (ap content_of c.token.ensures) push.pushes) push.growing c.container-around.result c.container-around.ensures
