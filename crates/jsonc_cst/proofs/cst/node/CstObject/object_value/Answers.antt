use Rattle.std.proofs.Common.{Some, None, refl}
use Rattle.jsonc_cst.proofs.cst.node.CstObject.object_value.Goals as goal

pub returns-in-Ok-Some-clause-value : goal.returns-in-Ok-Some-clause-value
returns-in-Ok-Some-clause-value g c = (Some c.in-Ok-Some.property, rw c.in-Ok-Some.field-0-is at c.in-Ok-Some.ensures.found, c.object_value.ensures.value)

pub returns-in-Ok-None-clause-value : goal.returns-in-Ok-None-clause-value
returns-in-Ok-None-clause-value g c = (None, rw c.in-Ok-None.field-0-is at c.in-Ok-None.ensures.found, refl)
