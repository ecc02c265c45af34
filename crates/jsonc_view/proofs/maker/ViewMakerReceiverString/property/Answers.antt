use Rattle.std.proofs.Common.{refl}
use Rattle.jsonc_view.proofs.Making.{member_stacked}
use Rattle.jsonc_view.proofs.maker.ViewMakerReceiverString.property.Goals as goal

pub returns-clause-held : goal.returns-clause-held
returns-clause-held g c = λ s m k i ms n x held named made covers.
    member_stacked s m k c.args.self.now _ c.args._object.now (record { name = c.args.property; value = c.args.item }) ms (record { range = c.args._range; name = n; value = x })
    held named made refl refl c.in_ok-push.ensures.items refl
