use Rattle.std.proofs.Common.{refl}
use Rattle.jsonc_text.proofs.lemmas.string.Decoding.{no_close_run, run_holds_none}
use Rattle.jsonc_text.proofs.lemmas.string.Faults.{read_run, told_unclosed}
use Rattle.jsonc_text.proofs.lemmas.string.Passing.{passed_run, value_of_run}
use Rattle.jsonc_text.proofs.string.pass.pass_from.Goals as goal

pub returns-then-has_byte-clause-found : goal.returns-then-has_byte-clause-found
returns-then-has_byte-clause-found c =
    passed_run _ _ _ _ _ c.utf8.text c.requires.boundary c.requires.quote c.requires.opens c.requires.run (c.if-has_byte.ensures.here refl)

pub returns-then-has_byte-clause-escaped : goal.returns-then-has_byte-clause-escaped
returns-then-has_byte-clause-escaped c =
    (λ e. cc, λ h. absurd (run_holds_none _ _ _ _ c.utf8.text c.requires.quote c.requires.opens c.requires.run (c.if-has_byte.ensures.here refl) h))

pub returns-then-has_byte-clause-plain : goal.returns-then-has_byte-clause-plain
returns-then-has_byte-clause-plain c = λ e.
    value_of_run c.args.literal.extended _ _ _ _ c.utf8.text c.requires.boundary c.requires.quote c.requires.opens c.requires.run (c.if-has_byte.ensures.here refl)

pub returns-then-not-has_byte-clause-none : goal.returns-then-not-has_byte-clause-none
returns-then-not-has_byte-clause-none c =
    no_close_run _ _ _ _ _ c.requires.quote c.requires.opens c.requires.run c.requires.stops (c.if-has_byte.ensures.other refl) (c.if-not-has_byte.ensures.other refl)

pub returns-then-not-has_byte-clause-error : goal.returns-then-not-has_byte-clause-error
returns-then-not-has_byte-clause-error c =
    let fault = c.unterminated.ensures in
    let read = read_run c.args.literal.extended _ _ _ _ c.requires.quote c.requires.opens c.requires.run in
    told_unclosed _ _ _ _ _ _ fault.start fault.end fault.kind read c.requires.stops (c.if-has_byte.ensures.other refl) (c.if-not-has_byte.ensures.other refl)
