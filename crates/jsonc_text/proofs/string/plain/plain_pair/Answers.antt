use Rattle.std.proofs.Common.{arith}
use Rattle.jsonc_text.proofs.lemmas.string.Escapes.{low_left, pair_found, unit_on}
use Rattle.jsonc_text.proofs.string.plain.plain_pair.Goals as goal

pub returns : goal.returns
returns c = pair_found _ _ _ _ _ _ _ c.requires.first c.requires.high (unit_on _ _ _ _ _ c.in-Some.ensures (omega arith)) (low_left c.in-Some.low c.if-low.false) c.pair.ensures
