use Rattle.jsonc_tree.specs.Stored.{content_of}
use Rattle.jsonc_build.proofs.Building.{leaf_put}
use Rattle.jsonc_build.proofs.maker.DocumentMaker.leaf.Goals as goal

pub returns-clause-put : goal.returns-clause-put
returns-clause-put g c =
    let put = c.in_ok-put.ensures in
    leaf_put c.args.self.now c.put.new.self c.args.range c.args.range.start c.in_ok-put.field-0 (content_of c.args.kind) c.requires.reached put.rest put.container put.growing put.put
