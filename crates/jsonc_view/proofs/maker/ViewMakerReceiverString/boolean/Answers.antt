use Rattle.std.proofs.Common.{refl}
use Rattle.jsonc_view.proofs.Making.{stays}
use Rattle.jsonc_view.proofs.maker.ViewMakerReceiverString.boolean.Goals as goal

pub returns-clause-made : goal.returns-clause-made
returns-clause-made g c = stays c.args.self.now refl
