use Rattle.std.proofs.Common.{◌-◌, arith}
use Rattle.jsonc_text.proofs.LaneRuns.{digits_by_mask}
use Rattle.jsonc_text.proofs.runs.digit_stop_near.Goals as goal

pub returns-then-others-ne0 : goal.returns-then-others-ne0
returns-then-others-ne0 c = digits_by_mask _ c.args.near c.args.mask c.args.start (c.args.start - c.args.near) c.requires.mask (omega arith) (omega arith) (omega arith)
