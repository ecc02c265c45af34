use Rattle.jsonc_tree.specs.Content.{object}
use Rattle.jsonc_build.proofs.Building.{around_container, around_there, object_closed, ok_of}
use Rattle.jsonc_build.proofs.maker.DocumentMakerReceiverString.close_object.Goals as goal

pub close-requires-clause-in_tree : goal.close-requires-clause-in_tree
close-requires-clause-in_tree g c =
    let (s, xs, (row, h, all)) = c.requires.held in
    around_there s c.args.self.now c.args.object c.args.range.start object 0x7B row h

pub close-requires-clause-container : goal.close-requires-clause-container
close-requires-clause-container g c =
    let (s, xs, (row, h, all)) = c.requires.held in
    around_container s c.args.self.now c.args.object c.args.range.start object 0x7B row h

pub returns-clause-made : goal.returns-clause-made
returns-clause-made g c = ok_of c.close.result (λ closes i s xs held. object_closed s c.args.self.now c.close.new.self c.args.object c.args.range xs held closes) c.close.ensures.closes
