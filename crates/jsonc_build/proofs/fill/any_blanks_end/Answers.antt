use Rattle.jsonc_sound.specs.Leaves.{is_inner_blank}
use Rattle.jsonc_build.proofs.PassedCharacters.{passes_start, passes_more}
use Rattle.jsonc_build.proofs.fill.any_blanks_end.Goals as goal

pub loop-len-init : goal.loop-len-init
loop-len-init c = passes_start is_inner_blank _ _ _ c.requires c.blank_len-len.ensures.none c.blank_len-len.ensures.some

pub loop-len-preserved : goal.loop-len-preserved
loop-len-preserved c = passes_more is_inner_blank _ _ _ _ _ c.loop-len.invariant c.loop-len-test.true c.blank_len-len-in-loop-len.ensures.none c.blank_len-len-in-loop-len.ensures.some

pub returns-clause-order : goal.returns-clause-order
returns-clause-order c = c.loop-len.invariant.order
