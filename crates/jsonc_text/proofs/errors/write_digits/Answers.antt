use Rattle.std.proofs.Common.{refl}
use Rattle.std.proofs.Output.{has_written_append, has_written_styled_append}
use Rattle.jsonc_text.proofs.errors.write_digits.Goals as goal

pub returns-clause-writes : goal.returns-clause-writes
returns-clause-writes g c = λ plain ok.
    let a = c.in_ok-write_char.ensures.writes plain refl in
    let b = c.in_ok-write_char-2.ensures.writes a.plain refl in
    let x = c.in_ok-write_char-3.ensures.writes b.plain refl in
    has_written_append _ _ _ _ _ _ a (has_written_append _ _ _ _ _ _ b (has_written_append _ _ _ _ _ _ x (c.write_char-4.ensures.writes x.plain ok)))

pub returns-clause-styled : goal.returns-clause-styled
returns-clause-styled g c = λ flush ok.
    let a = c.in_ok-write_char.ensures.styled flush refl in
    let b = c.in_ok-write_char-2.ensures.styled a.flush refl in
    let x = c.in_ok-write_char-3.ensures.styled b.flush refl in
    has_written_styled_append _ _ _ _ _ _ a (has_written_styled_append _ _ _ _ _ _ b (has_written_styled_append _ _ _ _ _ _ x (c.write_char-4.ensures.styled x.flush ok)))
