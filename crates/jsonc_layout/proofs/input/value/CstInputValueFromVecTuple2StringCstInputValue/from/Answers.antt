use Rattle.jsonc_layout.proofs.lemmas.input.ValueLevels.{plain-Object}
use Rattle.jsonc_layout.proofs.input.value.CstInputValueFromVecTuple2StringCstInputValue.from.Goals as goal

pub returns : goal.returns
returns g c = plain-Object c.args.properties
