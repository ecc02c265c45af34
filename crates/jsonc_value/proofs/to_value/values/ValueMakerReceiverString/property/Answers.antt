use Rattle.std.proofs.Common.{refl}
use Rattle.jsonc_value.proofs.lemmas.to_value.Stacked.{property_stacked}
use Rattle.jsonc_value.proofs.to_value.values.ValueMakerReceiverString.property.Goals as goal

pub returns-clause-held : goal.returns-clause-held
returns-clause-held g c = λ s m k i ms n x held named made covers.
    property_stacked s m k c.args.self.now _ c.args._object.now c.args.property c.args.item ms (record { range = c.args._range; name = n; value = x }) held named made refl c.in_ok-push.ensures.items refl
