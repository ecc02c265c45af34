use Rattle.std.proofs.Common.{◌≡◌, ◌-◌, length}
use Rattle.jsonc_text.specs.Text.{is_hex_digit}
use Rattle.jsonc_text.proofs.CharRuns.{Passes}
use Rattle.jsonc_text.proofs.chars.hex_digits_end.Given as goal

abbrev pub invariant-loop-place : goal.invariant-loop-place
invariant-loop-place l = (l.bytes ≡ l.text) × Passes is_hex_digit l.text l.start l.place

abbrev pub decreases-loop-place : goal.decreases-loop-place
decreases-loop-place l = length l.bytes - l.place
