use Rattle.std.proofs.Common.{◌≡◌, ℕ, ◌^◌, ◌<◌, false, chars, pos, ◌⊎◌, inl, inr, arith}
use Rattle.jsonc_parser.specs.Numbers.{WritesInteger}
use Rattle.jsonc_parser.proofs.NumberSigns.{if_none, integer_behind, integer_ascii, signed_pos, to_chars, unsigned_integer}
use Rattle.jsonc_parser.proofs.numbers.parse_u64.Goals.{else-negative-via-then-negative+else-size-gt0, else-negative-via-else-negative}
use Rattle.jsonc_parser.proofs.numbers.parse_u64.Goals as goal

pub returns-in_err-size-clause-none : goal.returns-in_err-size-clause-none
returns-in_err-size-clause-none c =
    let split = c.split_sign-negative in
    let fails : (n : ℕ) → n < 2 ^ 64 → WritesInteger (chars c.args.text.now) (pos n) → ⊥ =
    λ n l h. (let p = integer_behind c.args.text.now split.result.1.now split.result.0 split.ensures.only c.utf8.text (pos n) h in omega (arith, l, c.in_err-size.ensures.none p.k p.whole, (signed_pos split.result.0 p.k n p.is).0)) in
    if_none c.from_residual.result fails

pub returns-then-size-gt0-clause-none : goal.returns-then-size-gt0-clause-none
returns-then-size-gt0-clause-none c n l h =
    let split = c.split_sign-negative in
    let p = integer_behind c.args.text.now split.result.1.now split.result.0 split.ensures.only c.utf8.text (pos n) h in
    omega (arith, c.if-size-gt0.true, c.in_ok-size.ensures.only p.k p.whole, (signed_pos split.result.0 p.k n p.is).1 c.if-negative.true)

pub returns-else-negative-clause-some : goal.returns-else-negative-clause-some
returns-else-negative-clause-some c =
    let split = c.split_sign-negative in
    let size = c.in_ok-size.size in
    let plain : (split.result.0 ≡ false) ⊎ (size ≡ 0) =
    elim c.else-negative.branch [ else-negative-via-then-negative+else-size-gt0 w ↦ inr (omega (arith, w.if-size-gt0.false)) | else-negative-via-else-negative w ↦ inl w.if-negative.false ] in
    to_chars (λ s. WritesInteger s (pos size)) (λ s. integer_ascii s (pos size)) c.args.text.now (unsigned_integer split.result.0 size split.ensures.sign c.in_ok-size.ensures.some plain)
