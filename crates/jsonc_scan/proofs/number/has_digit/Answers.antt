use Rattle.std.proofs.Common.{sym, ◌∙◌}
use Rattle.jsonc_text.specs.Text.{is_digit}
use Rattle.jsonc_text.proofs.Ascii.{ascii_no, digit_small}
use Rattle.jsonc_scan.proofs.NumberParts.{has_at}
use Rattle.jsonc_text.proofs.CharacterSteps.{no_at_end}
use Rattle.jsonc_scan.proofs.number.has_digit.Goals as goal

pub returns-then-place-bytes-clause-here : goal.returns-then-place-bytes-clause-here
returns-then-place-bytes-clause-here c =
    let same = c.as_bytes-bytes.ensures.value in
    λ h. has_at is_digit digit_small _ _ c.utf8.text (rw same at c.if-place-bytes.true) (rw same at (sym c.is_ascii_digit.ensures.value ∙ h))

pub returns-then-place-bytes-clause-other : goal.returns-then-place-bytes-clause-other
returns-then-place-bytes-clause-other c =
    let same = c.as_bytes-bytes.ensures.value in
    λ h. ascii_no is_digit digit_small _ _ c.utf8.text c.requires (rw same at c.if-place-bytes.true) (rw same at (sym c.is_ascii_digit.ensures.value ∙ h))

pub returns-else-place-bytes-clause-other : goal.returns-else-place-bytes-clause-other
returns-else-place-bytes-clause-other c = λ h. no_at_end is_digit _ _ (rw c.as_bytes-bytes.ensures.value at c.if-place-bytes.false)
