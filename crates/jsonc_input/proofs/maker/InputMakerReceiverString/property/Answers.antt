use Rattle.jsonc_input.proofs.Values.{property_put}
use Rattle.jsonc_input.proofs.maker.InputMakerReceiverString.property.Goals as goal

pub returns-in-Ok-clause-held : goal.returns-in-Ok-clause-held
returns-in-Ok-clause-held g c = λ s m k i ms n x held named made covers.
    property_put c.args.object.now.entries c.insert.new.self.entries c.args.property c.args.item ms (record { range = c.args._range; name = n; value = x }) c.in-Ok.ensures.entries held named made
