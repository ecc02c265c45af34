use Rattle.jsonc_input.proofs.Values.{element_added}
use Rattle.jsonc_input.proofs.maker.InputMakerReceiverString.element.Goals as goal

pub returns-clause-held : goal.returns-clause-held
returns-clause-held g c = λ s m i xs x held made. element_added c.args.array.now.items c.push.new.self.items c.args.item xs x c.in_ok-push.ensures.items held made
