use Rattle.std.proofs.Common.{sym, ◌∙◌}
use Rattle.jsonc_text.specs.Text.{is_hex_digit}
use Rattle.jsonc_text.proofs.Ascii.{ascii_no, hex_digit_small}
use Rattle.jsonc_text.proofs.CharacterSteps.{steps_ascii, no_at_end}
use Rattle.jsonc_text.proofs.string.escape.hex_digit_at.Goals as goal

pub returns-then-is_ascii_hexdigit-clause-found : goal.returns-then-is_ascii_hexdigit-clause-found
returns-then-is_ascii_hexdigit-clause-found c =
    let same = c.as_bytes-bytes.ensures.value in
    let digit = sym c.is_ascii_hexdigit.ensures.value ∙ c.if-is_ascii_hexdigit.true in
    rw same (steps_ascii c.args.text.now c.args.place c.utf8.text (rw same at c.if-place-bytes.true) (hex_digit_small _ (rw same at digit)))

pub returns-else-is_ascii_hexdigit-clause-none : goal.returns-else-is_ascii_hexdigit-clause-none
returns-else-is_ascii_hexdigit-clause-none c =
    let same = c.as_bytes-bytes.ensures.value in
    ascii_no is_hex_digit hex_digit_small _ _ c.utf8.text c.requires (rw same at c.if-place-bytes.true) (rw same at (sym c.is_ascii_hexdigit.ensures.value ∙ c.if-is_ascii_hexdigit.false))

pub returns-else-place-bytes-clause-none : goal.returns-else-place-bytes-clause-none
returns-else-place-bytes-clause-none c = no_at_end is_hex_digit _ _ (rw c.as_bytes-bytes.ensures.value at c.if-place-bytes.false)
