use Rattle.jsonc_text.proofs.LaneRuns.{no_digit_mask}
use Rattle.jsonc_text.proofs.runs.digit_stops_in.Goals as goal

pub returns : goal.returns
returns c = no_digit_mask c.args.bytes c.fits-bytes.0
