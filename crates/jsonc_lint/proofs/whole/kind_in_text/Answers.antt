use Rattle.std.proofs.Common.{refl, subst}
use Rattle.jsonc_mends.specs.Mends.{mended_text}
use Rattle.jsonc_lint.specs.Moves.{IsKindOf}
use Rattle.jsonc_lint.proofs.whole.kind_in_text.Goals as goal

pub first_in_text-requires-clause-start : goal.first_in_text-requires-clause-start
first_in_text-requires-clause-start g c = subst (IsKindOf (mended_text c.args.mends.now)) c.in-RepeatedName.is c.requires.kind
