use Rattle.std.proofs.Common.{refl, ◌+◌}
use Rattle.jsonc_text.proofs.lemmas.string.Decoding.{quoted_run, no_close_run, run_holds_none, before_quote}
use Rattle.jsonc_text.proofs.lemmas.string.Faults.{read_run, told_unclosed}
use Rattle.jsonc_text.proofs.string.decode.decode_from.Goals as goal

pub returns-then-has_byte-clause-found : goal.returns-then-has_byte-clause-found
returns-then-has_byte-clause-found g c = quoted_run _ _ _ _ _ _ c.utf8.text c.requires.opens c.requires.run c.range.ensures.value (c.if-has_byte.ensures.here refl)

pub returns-then-has_byte-clause-lent : goal.returns-then-has_byte-clause-lent
returns-then-has_byte-clause-lent g c = record {
  copied = (λ b. absurd b, λ h. absurd (run_holds_none _ _ _ _ c.utf8.text c.requires.quote c.requires.opens c.requires.run (c.if-has_byte.ensures.here refl) h));
  slice = λ b. before_quote c.args.text.now _ (c.args.literal.start + 1) c.args.stop c.range.ensures.value;
}

pub returns-then-not-has_byte-clause-none : goal.returns-then-not-has_byte-clause-none
returns-then-not-has_byte-clause-none g c = λ k.
    no_close_run _ _ _ _ _ c.requires.quote c.requires.opens c.requires.run c.requires.stops (c.if-has_byte.ensures.other refl) (c.if-not-has_byte.ensures.other refl)

pub returns-then-not-has_byte-clause-error : goal.returns-then-not-has_byte-clause-error
returns-then-not-has_byte-clause-error g c =
    let fault = c.unterminated.ensures in
    let read = read_run c.args.literal.extended _ _ _ _ c.requires.quote c.requires.opens c.requires.run in
    told_unclosed _ _ _ _ _ _ fault.start fault.end fault.kind read c.requires.stops (c.if-has_byte.ensures.other refl) (c.if-not-has_byte.ensures.other refl)
