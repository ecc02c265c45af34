use Rattle.jsonc_tree.specs.Stored.{content_of}
use Rattle.jsonc_build.proofs.Building.{name_opened}
use Rattle.jsonc_build.proofs.maker.DocumentMaker.name.Goals as goal

pub returns-clause-named : goal.returns-clause-named
returns-clause-named g c = λ x.
    let property = c.in_ok-property.ensures in
    let push = c.in_ok-push.ensures in
    name_opened c.args.self.now c.put.new.self c.enter.new.self c.push.new.self c.args.range c.args.range.start c.in_ok-property.property (content_of c.in_ok-name.name) x c.requires.follows.reached property.rest property.put
    c.enter.ensures.nodes c.enter.ensures.container push.container push.pushes push.growing c.requires.spans c.in_ok-name.ensures c.container-around.result c.container-around.ensures
