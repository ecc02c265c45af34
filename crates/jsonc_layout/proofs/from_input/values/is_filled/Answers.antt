use Rattle.jsonc_layout.proofs.lemmas.from_input.ValueLevels.{filled_Array, filled_Object}
use Rattle.jsonc_layout.proofs.from_input.values.is_filled.Goals as goal

pub returns-in-Array : goal.returns-in-Array
returns-in-Array g c = filled_Array c.args.value.now c.in-Array.elements c.is_empty.result c.in-Array.is c.is_empty.ensures

pub returns-in-Object : goal.returns-in-Object
returns-in-Object g c = filled_Object c.args.value.now c.in-Object.properties c.is_empty-in-Object.result c.in-Object.is c.is_empty-in-Object.ensures
