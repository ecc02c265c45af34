use Rattle.jsonc_build.proofs.Building.{property_container, property_held, property_there}
use Rattle.jsonc_build.proofs.maker.DocumentMakerReceiverString.property.Goals as goal

pub enter-requires-clause-in_tree : goal.enter-requires-clause-in_tree
enter-requires-clause-in_tree g c =
    let (s, m, k, place, ms, n, x, held, named, made, covers) = c.requires.held in
    property_there m k c.args.self.now c.args.property n x named made

pub enter-requires-clause-holds : goal.enter-requires-clause-holds
enter-requires-clause-holds g c =
    let (s, m, k, place, ms, n, x, held, named, made, covers) = c.requires.held in
    property_container m k c.args.self.now c.args.property n x named made

pub returns-clause-held : goal.returns-clause-held
returns-clause-held g c = λ s m k i ms n x held named made covers.
    property_held s m k c.args.self.now c.enter.new.self c.args._object.now c.args.property i ms n x c.args._range held named made covers c.enter.ensures.nodes c.enter.ensures.container c.enter.ensures.growing
