use Rattle.std.proofs.Common.{inr, arith}
use Rattle.jsonc_text.proofs.runs.digit_mask.Goals as goal

pub returns : goal.returns
returns c = inr (omega arith, c.digit_stops_in.ensures)
