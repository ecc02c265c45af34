use Rattle.jsonc_text.specs.Text.{is_digit}
use Rattle.jsonc_text.proofs.Ascii.{digit_small}
use Rattle.jsonc_text.proofs.CharRuns.{small_run}
use Rattle.jsonc_text.proofs.chars.digits_end.Goals as goal

pub returns-clause-boundary : goal.returns-clause-boundary
returns-clause-boundary c = (small_run is_digit _ _ _ digit_small c.utf8.text c.requires (rw c.as_bytes.ensures.value at c.digit_stop.ensures)).0.boundary

pub returns-clause-digits : goal.returns-clause-digits
returns-clause-digits c = (small_run is_digit _ _ _ digit_small c.utf8.text c.requires (rw c.as_bytes.ensures.value at c.digit_stop.ensures)).0.many

pub returns-clause-all : goal.returns-clause-all
returns-clause-all c = (small_run is_digit _ _ _ digit_small c.utf8.text c.requires (rw c.as_bytes.ensures.value at c.digit_stop.ensures)).1
