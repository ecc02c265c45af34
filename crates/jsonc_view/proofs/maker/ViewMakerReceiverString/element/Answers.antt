use Rattle.std.proofs.Common.{refl}
use Rattle.jsonc_view.proofs.Making.{element_stacked}
use Rattle.jsonc_view.proofs.maker.ViewMakerReceiverString.element.Goals as goal

pub returns-clause-held : goal.returns-clause-held
returns-clause-held g c = λ s m i xs x held made. element_stacked s m c.args.self.now _ c.args._array.now c.args.item xs x held made refl refl c.in_ok-push.ensures.items refl
