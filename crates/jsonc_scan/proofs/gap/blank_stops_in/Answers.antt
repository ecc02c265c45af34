use Rattle.jsonc_scan.proofs.Blanks.{no_blank_mask}
use Rattle.jsonc_scan.proofs.gap.blank_stops_in.Goals as goal

pub returns : goal.returns
returns c = no_blank_mask c.args.bytes c.fits-bytes.0
