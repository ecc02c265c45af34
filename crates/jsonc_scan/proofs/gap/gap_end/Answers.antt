use Rattle.std.proofs.Common.{refl}
use Rattle.jsonc_text.specs.Gaps.{is_blank}
use Rattle.jsonc_text.specs.Text.{stop}
use Rattle.jsonc_text.proofs.CharacterSteps.{many_push}
use Rattle.jsonc_scan.proofs.gap.gap_end.Goals as goal

pub returns-then-has_no_blank-clause-blanks : goal.returns-then-has_no_blank-clause-blanks
returns-then-has_no_blank-clause-blanks c = stop

pub returns-then-has_no_blank-2-clause-blanks : goal.returns-then-has_no_blank-2-clause-blanks
returns-then-has_no_blank-2-clause-blanks c = many_push is_blank _ _ _ _ _ stop refl (c.if-has_byte.ensures.here refl)
