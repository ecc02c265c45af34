use Rattle.std.proofs.Common.{arith}
use Rattle.jsonc_scan.proofs.Blanks.{no_blank_here}
use Rattle.jsonc_scan.proofs.gap.has_no_blank.Goals as goal

pub returns : goal.returns
returns c = no_blank_here _ _ _ c.as_bytes-bytes.ensures.value c.utf8.text (omega arith)
