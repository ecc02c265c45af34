use Rattle.std.proofs.Common.{◌≡◌, ℤ, FitsSigned, w64, chars, ◌∙◌, ap, subst, sym, arith}
use Rattle.fast_float.specs.Text.{with_sign}
use Rattle.jsonc_parser.specs.Numbers.{WritesInteger}
use Rattle.jsonc_parser.proofs.NumberSigns.{if_none, integer_behind, integer_ascii, signed_fits, signed_some, signed_none, to_chars}
use Rattle.jsonc_parser.proofs.numbers.parse_i64.Goals as goal

pub returns-in_err-whole_u64-clause-none : goal.returns-in_err-whole_u64-clause-none
returns-in_err-whole_u64-clause-none c =
    let split = c.split_sign-negative in
    let fails : (z : ℤ) → FitsSigned w64 z → WritesInteger (chars c.args.text.now) z → ⊥ =
    λ z fits h. (let p = integer_behind c.args.text.now split.result.1.now split.result.0 split.ensures.only c.utf8.text z h in omega (arith, c.in_err-whole_u64.ensures.none p.k p.whole, signed_fits split.result.0 p.k (subst (FitsSigned w64) p.is fits))) in
    if_none c.from_residual.result fails

pub returns-clause-some : goal.returns-clause-some
returns-clause-some c =
    let split = c.split_sign-negative in
    let size = c.in_ok-whole_u64.field-0 in
    let z = with_sign split.result.0 size in
    signed_some c.signed.result z c.signed.ensures (to_chars (λ s. WritesInteger s z) (λ s. integer_ascii s z) c.args.text.now (WritesInteger.integer split.result.0 size split.ensures.sign c.in_ok-whole_u64.ensures.some))

pub returns-clause-none : goal.returns-clause-none
returns-clause-none c =
    let split = c.split_sign-negative in
    let size = c.in_ok-whole_u64.field-0 in
    let only : (z : ℤ) → WritesInteger (chars c.args.text.now) z → z ≡ with_sign split.result.0 size =
    λ z h. (let p = integer_behind c.args.text.now split.result.1.now split.result.0 split.ensures.only c.utf8.text z h in p.is ∙ ap (with_sign split.result.0) (sym (c.in_ok-whole_u64.ensures.only p.k p.whole))) in
    signed_none c.signed.result (with_sign split.result.0 size) c.signed.ensures only
