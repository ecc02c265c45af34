use Rattle.jsonc_text.proofs.lemmas.string.Escapes.{alone_found, alone_left}
use Rattle.jsonc_text.proofs.string.plain.plain_unit.Goals as goal

pub returns-in-Some-from_u32 : goal.returns-in-Some-from_u32
returns-in-Some-from_u32 c = alone_found _ _ _ _ _ c.in-Some.ensures (alone_left c.in-Some.unit c.if-unit.false c.if-unit-2.false) c.in-Some-from_u32.ensures.value.1
