use Rattle.jsonc_build.proofs.Building.{element_held}
use Rattle.jsonc_build.proofs.maker.DocumentMakerReceiverString.element.Goals as goal

pub returns-clause-held : goal.returns-clause-held
returns-clause-held g c = λ s m i xs x held made. element_held s m c.args.self.now c.args._array.now i xs x held made
