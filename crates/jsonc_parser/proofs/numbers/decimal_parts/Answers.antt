use Rattle.std.proofs.Common.{◌≡◌, length, true≢false, sym, ap, ◌∙◌, subst, arith}
use Rattle.std.proofs.lemmas.Bool.{ltb-true}
use Rattle.std.specs.Float.Numeral.{scan_numeral}
use Rattle.jsonc_parser.proofs.NumberTexts.{HasLoneZero, parts_decimal, decimal_parts, lone_first, lone_short, padded}
use Rattle.jsonc_parser.proofs.numbers.decimal_parts.Goals.{then-whole-gt1, else-whole-gt1, else-len-unsigned-via-then-len-unsigned+then-has_digits+else-not-padded, else-len-unsigned-via-then-len-unsigned+else-has_digits, else-len-unsigned-via-else-len-unsigned}
use Rattle.jsonc_parser.proofs.numbers.decimal_parts.Goals as goal

pub returns-then-not-padded-clause-some : goal.returns-then-not-padded-clause-some
returns-then-not-padded-clause-some c =
    let e : c.scan-numeral.result ≡ scan_numeral c.args.unsigned.now = c.scan-numeral.ensures.parts ∙ ap scan_numeral c.as_bytes.ensures.value in
    let lone : HasLoneZero c.whole-whole.result.now =
    elim c.if-whole-gt1.branch [ then-whole-gt1 w ↦ lone_first _ c.if-whole-gt1.padded w.padded-is c.if-not-padded.true | else-whole-gt1 w ↦ lone_short _ (omega (arith, w.if-whole-gt1.false)) ] in
    parts_decimal c.args.unsigned.now c.scan-numeral.result e (sym c.len.ensures ∙ c.if-len-unsigned.true) (sym c.has_digits.ensures ∙ c.if-has_digits.true) (subst HasLoneZero c.whole-whole.ensures.value lone)

pub returns-then-not-padded-clause-only : goal.returns-then-not-padded-clause-only
returns-then-not-padded-clause-only c m d h =
    let e : c.scan-numeral.result ≡ scan_numeral c.args.unsigned.now = c.scan-numeral.ensures.parts ∙ ap scan_numeral c.as_bytes.ensures.value in
    let s = decimal_parts c.args.unsigned.now c.scan-numeral.result e m d h in
    (s.digits, s.tens)

pub returns-else-len-unsigned-clause-none : goal.returns-else-len-unsigned-clause-none
returns-else-len-unsigned-clause-none c m d h =
    let e : c.scan-numeral.result ≡ scan_numeral c.args.unsigned.now = c.scan-numeral.ensures.parts ∙ ap scan_numeral c.as_bytes.ensures.value in
    let s = decimal_parts c.args.unsigned.now c.scan-numeral.result e m d h in
    elim c.else-len-unsigned.branch [
      | else-len-unsigned-via-then-len-unsigned+then-has_digits+else-not-padded w ↦ elim c.if-whole-gt1.branch [
        | then-whole-gt1 v ↦ (let lone = subst HasLoneZero (sym c.whole-whole.ensures.value) s.lone in omega (arith, v.if-whole-gt1.true, lone (padded c.whole-whole.result.now c.if-whole-gt1.padded v.padded-is w.if-not-padded.false)))
        | else-whole-gt1 v ↦ absurd (omega (arith, v.if-whole-gt1.false, ltb-true 1 (length c.whole-whole.result.now) (sym v.padded-is ∙ w.if-not-padded.false)))
      ]
      | else-len-unsigned-via-then-len-unsigned+else-has_digits w ↦ true≢false (sym s.some ∙ sym w.has_digits.ensures ∙ w.if-has_digits.false)
      | else-len-unsigned-via-else-len-unsigned w ↦ w.if-len-unsigned.false (c.len.ensures ∙ s.long)
    ]
