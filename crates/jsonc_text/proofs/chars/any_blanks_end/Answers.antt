use Rattle.std.proofs.Common.{arith}
use Rattle.jsonc_text.proofs.CharRuns.{passes_none, passes_more}
use Rattle.jsonc_text.specs.Gaps.{is_blank}
use Rattle.jsonc_text.proofs.chars.any_blanks_end.Goals as goal

pub loop-len-init : goal.loop-len-init
loop-len-init c = record { blanks = passes_none is_blank _ _ c.requires; none = c.blank_len-len.ensures.none; some = c.blank_len-len.ensures.some }

pub loop-len-preserved : goal.loop-len-preserved
loop-len-preserved c =
    let held = c.loop-len.invariant in
    let one = held.some c.loop-len-test.true in
    record {
      blanks = passes_more is_blank _ _ _ one.0 _ held.blanks (omega arith) one.1 one.2;
      none = c.blank_len-len-in-loop-len.ensures.none;
      some = c.blank_len-len-in-loop-len.ensures.some;
    }
