use Rattle.jsonc_scan.proofs.NumberParts.{run_found}
use Rattle.jsonc_scan.proofs.plain.near_digits_end.Goals as goal

pub returns : goal.returns
returns c = run_found _ _ _ c.utf8.text c.requires.boundary (rw c.as_bytes.ensures.value at c.digit_stop_near-end.ensures) c.if-end-start.false
