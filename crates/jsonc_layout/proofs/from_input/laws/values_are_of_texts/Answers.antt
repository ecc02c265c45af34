use Rattle.jsonc_layout.proofs.lemmas.from_input.Texts.{of_texts}
use Rattle.jsonc_layout.proofs.from_input.laws.values_are_of_texts.Goals as goal

pub returns : goal.returns
returns g c = of_texts g.row.A.Denot c.args.value.now
