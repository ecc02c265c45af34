use Rattle.jsonc_text.proofs.LaneRuns.{either_mask}
use Rattle.jsonc_text.proofs.runs.stops_in.Goals as goal

pub returns : goal.returns
returns c = either_mask c.args.first c.args.second c.args.bytes c.fits-bytes.0
