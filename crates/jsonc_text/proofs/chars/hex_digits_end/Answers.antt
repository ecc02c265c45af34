use Rattle.std.proofs.Common.{sym, ◌∙◌}
use Rattle.jsonc_text.specs.Text.{is_hex_digit}
use Rattle.jsonc_text.proofs.CharacterSteps.{no_at_end}
use Rattle.jsonc_text.proofs.Ascii.{ascii_no, hex_digit_small}
use Rattle.jsonc_text.proofs.CharRuns.{passes_none, passes_ascii}
use Rattle.jsonc_text.proofs.chars.hex_digits_end.Goals as goal

pub loop-place-init : goal.loop-place-init
loop-place-init c = (c.as_bytes-bytes.ensures.value, passes_none is_hex_digit _ _ c.requires)

pub loop-place-preserved : goal.loop-place-preserved
loop-place-preserved c =
    let same = c.as_bytes-bytes.ensures.value in
    (same, passes_ascii is_hex_digit _ _ _ hex_digit_small c.utf8.text c.loop-place.invariant.1 (rw same at c.loop-place-test.true) (rw same at (sym c.is_ascii_hexdigit.ensures.value ∙ c.if-is_ascii_hexdigit.true)))

pub returns-else-is_ascii_hexdigit-clause-all : goal.returns-else-is_ascii_hexdigit-clause-all
returns-else-is_ascii_hexdigit-clause-all c =
    let same = c.as_bytes-bytes.ensures.value in
    ascii_no is_hex_digit hex_digit_small _ _ c.utf8.text c.loop-place.invariant.1.boundary (rw same at c.loop-place-test.true) (rw same at (sym c.is_ascii_hexdigit.ensures.value ∙ c.if-is_ascii_hexdigit.false))

pub returns-after-loop-place-clause-all : goal.returns-after-loop-place-clause-all
returns-after-loop-place-clause-all c = no_at_end is_hex_digit c.args.text.now c.loop-place.place (rw c.as_bytes-bytes.ensures.value at c.loop-place-test.false)
