use Rattle.std.proofs.Common.{sym, ◌∙◌}
use Rattle.jsonc_text.proofs.lemmas.string.Escapes.{zero_found, no_zero}
use Rattle.std.proofs.Common.{refl, true}
use Rattle.jsonc_text.proofs.lemmas.string.Faults.{ends_longer, told_after, told_end, told_octal}
use Rattle.jsonc_text.proofs.string.escape.read_nul.Goals as goal

pub returns-then-is_ascii_digit-clause-none : goal.returns-then-is_ascii_digit-clause-none
returns-then-is_ascii_digit-clause-none c = no_zero _ _ _ _ c.requires.backslash c.requires.nul c.in-Some.ensures.some (sym c.is_ascii_digit.ensures.value ∙ c.if-is_ascii_digit.true)

pub returns-clause-found : goal.returns-clause-found
returns-clause-found c = zero_found _ _ _ _ c.requires.backslash c.requires.nul c.in-Some.ensures.some (sym c.is_ascii_digit.ensures.value ∙ c.if-is_ascii_digit.false)

pub returns-in_default-clause-error : goal.returns-in_default-clause-error
returns-in_default-clause-error c = λ q.
    let read = c.unterminated.ensures in
    told_end true q _ _ _ _ read.start read.end read.kind (ends_longer _ _ 0x30 refl c.requires.backslash c.requires.nul c.in_default.ensures.none)

pub returns-then-is_ascii_digit-clause-error : goal.returns-then-is_ascii_digit-clause-error
returns-then-is_ascii_digit-clause-error c = λ q.
    let read = c.string_fault.ensures in
    told_after true q _ _ _ _ (told_octal q _ _ _ _ _ read.start read.end read.kind c.requires.backslash c.requires.nul c.in-Some.ensures.some (sym c.is_ascii_digit.ensures.value ∙ c.if-is_ascii_digit.true))
