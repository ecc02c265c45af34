-- Gaps that are put together.
use Rattle.std.proofs.Common.{ℕ, List}
use Rattle.jsonc_text.specs.Options.{Options}
use Rattle.jsonc_text.specs.Text.{Many, stop, step}
use Rattle.jsonc_text.specs.Gaps.{Gap, none, blank, comment, is_blank}

pub blanks_gap : {o : Options} {t r : List ℕ} → Many is_blank t r → Gap o t r
blanks_gap stop = none
blanks_gap (step h m) = blank h (blanks_gap m)

pub gap_append : {o : Options} {t u r : List ℕ} → Gap o t u → Gap o u r → Gap o t r
gap_append none h = h
gap_append (blank e g) h = blank e (gap_append g h)
gap_append (comment a c g) h = comment a c (gap_append g h)
