use Rattle.jsonc_text.proofs.lemmas.string.Escapes.{byte_found, no_byte_first, no_byte_second}
use Rattle.std.proofs.Common.{arith, ◌+◌}
use Rattle.jsonc_text.proofs.lemmas.string.Faults.{few_at, few_after, told_two}
use Rattle.jsonc_text.proofs.string.escape.read_code_byte.Goals as goal

pub returns-in_default-clause-none : goal.returns-in_default-clause-none
returns-in_default-clause-none c = no_byte_first _ _ c.requires.backslash c.requires.x c.in_default.ensures.none

pub returns-in_default-hex_digit_at-clause-none : goal.returns-in_default-hex_digit_at-clause-none
returns-in_default-hex_digit_at-clause-none c = no_byte_second _ _ _ c.requires.backslash c.requires.x c.in-Some.ensures.found c.in_default-hex_digit_at.ensures.none

pub returns-clause-found : goal.returns-clause-found
returns-clause-found c =
    byte_found _ _ _ _ _ _ _ c.requires.backslash c.requires.x c.in-Some.ensures.found c.in-Some-hex_digit_at.ensures.found c.in-Some.ensures.digit c.in-Some-hex_digit_at.ensures.digit
    c.hex_digit_value.ensures.value c.hex_digit_value-2.ensures.value c.in-Some-from_u32.ensures.value.1

pub returns-in_default-clause-error : goal.returns-in_default-clause-error
returns-in_default-clause-error c = λ q.
    let read = c.string_fault.ensures in
    told_two q c.args.text.now _ (c.args.place + 2) _ read.start read.end read.kind c.requires.backslash c.requires.x (few_at 1 c.args.text.now (c.args.place + 2) c.in_default.ensures.none)

pub returns-in_default-hex_digit_at-clause-error : goal.returns-in_default-hex_digit_at-clause-error
returns-in_default-hex_digit_at-clause-error c = λ q.
    let read = c.string_fault-in_default-hex_digit_at.ensures in
    let last = few_at 0 c.args.text.now (c.args.place + 3) c.in_default-hex_digit_at.ensures.none in
    told_two q c.args.text.now _ (c.args.place + 3) _ read.start read.end read.kind c.requires.backslash c.requires.x (few_after 1 _ _ _ _ c.in-Some.ensures.found (omega arith) c.in-Some.ensures.digit last)
