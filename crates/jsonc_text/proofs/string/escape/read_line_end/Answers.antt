use Rattle.jsonc_text.proofs.lemmas.string.Escapes.{cr_lf_found, lone_cr_found, line_feed_after}
use Rattle.std.proofs.Common.{refl, true}
use Rattle.jsonc_text.proofs.lemmas.string.Faults.{ends_longer, told_end}
use Rattle.jsonc_text.proofs.string.escape.read_line_end.Goals as goal

pub returns-then-c-eq10-clause-found : goal.returns-then-c-eq10-clause-found
returns-then-c-eq10-clause-found c = cr_lf_found _ _ _ _ c.requires.backslash c.requires.cr c.in-Some.ensures.some c.if-c-eq10.true (line_feed_after _ _ c.if-c-eq10.true)

pub returns-else-c-eq10-clause-found : goal.returns-else-c-eq10-clause-found
returns-else-c-eq10-clause-found c = lone_cr_found _ _ _ _ c.requires.backslash c.requires.cr c.in-Some.ensures.some c.if-c-eq10.false

pub returns-in_default-clause-error : goal.returns-in_default-clause-error
returns-in_default-clause-error c = λ q.
    let read = c.unterminated.ensures in
    told_end true q _ _ _ _ read.start read.end read.kind (ends_longer _ _ 0x0D refl c.requires.backslash c.requires.cr c.in_default.ensures.none)
