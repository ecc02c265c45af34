use Rattle.std.proofs.Common.{refl, sym}
use Rattle.std.proofs.Output.{has_written_styled_append}
use Rattle.jsonc_text.proofs.Writing.{plain_of_styled}
use Rattle.jsonc_text.proofs.errors.ParseStringErrorKindDisplay.fmt.Goals as goal

pub returns-in_ok-write_str-in-InvalidUnicodeEscapeSequence-3-clause-styled : goal.returns-in_ok-write_str-in-InvalidUnicodeEscapeSequence-3-clause-styled
returns-in_ok-write_str-in-InvalidUnicodeEscapeSequence-3-clause-styled g c = λ flush ok.
    let front = c.in_ok-write_str-in-InvalidUnicodeEscapeSequence.ensures.styled flush refl in
    let digits = c.in_ok-write_digits-in-InvalidUnicodeEscapeSequence.ensures.styled front.flush refl in
    let opening = c.in_ok-write_str-in-InvalidUnicodeEscapeSequence-2.ensures.styled digits.flush refl in
    let reason = c.in_ok-write_str-in-InvalidUnicodeEscapeSequence-3.ensures.styled opening.flush refl in
    rw c.in-InvalidUnicodeEscapeSequence.is (rw (sym c.text.ensures) (has_written_styled_append _ _ _ _ _ _ front (has_written_styled_append _ _ _ _ _ _ digits (has_written_styled_append _ _ _ _ _ _ opening (has_written_styled_append _ _ _ _ _ _ reason (c.write_str-in-InvalidUnicodeEscapeSequence-4.ensures.styled reason.flush ok))))))

pub returns-in_ok-write_str-in-InvalidUnicodeEscapeSequence-3-clause-writes : goal.returns-in_ok-write_str-in-InvalidUnicodeEscapeSequence-3-clause-writes
returns-in_ok-write_str-in-InvalidUnicodeEscapeSequence-3-clause-writes g c =
    plain_of_styled _ _ _ _ _ (returns-in_ok-write_str-in-InvalidUnicodeEscapeSequence-3-clause-styled g c)
