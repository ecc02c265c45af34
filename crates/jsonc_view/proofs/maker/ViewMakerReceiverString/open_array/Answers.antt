use Rattle.std.proofs.Common.{◌∙◌}
use Rattle.jsonc_view.proofs.Making.{no_element_yet}
use Rattle.jsonc_view.proofs.maker.ViewMakerReceiverString.open_array.Goals as goal

pub returns-clause-held : goal.returns-clause-held
returns-clause-held g c = no_element_yet c.args.self.now c.len.result (c.len.ensures ∙ c.args.self.now.elements.ok.0)
