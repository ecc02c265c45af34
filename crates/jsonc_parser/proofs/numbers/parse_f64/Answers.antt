use Rattle.std.proofs.Common.{◌≡◌, ◌≢◌, ℕ, List, chars, codes, true≢false, refl, sym, ◌∙◌}
use Rattle.std.proofs.lemmas.Slice.Eq.{bytes_eq-Decides}
use Rattle.std.specs.Float.Ieee.{Float, binary64, of_bits, nan}
use Rattle.jsonc_text.specs.Options.{all_on}
use Rattle.jsonc_text.specs.Numbers.{NumberLit}
use Rattle.jsonc_parser.specs.Numbers.{WritesFloat, IsLongHexadecimal}
use Rattle.jsonc_parser.proofs.NumberLaws.{grammar_writes}
use Rattle.jsonc_parser.proofs.NumberSigns.{if_none_map, infinity_text, nan_text, number_text, no_text}
use Rattle.jsonc_parser.proofs.numbers.parse_f64.Goals as goal

pub returns-then-eq-clause-some : goal.returns-then-eq-clause-some
returns-then-eq-clause-some c =
    let split = c.split_sign-negative in
    let e = (bytes_eq-Decides split.result.1.now (codes "Infinity")).0 (sym c.eq.ensures ∙ c.if-eq.true) in
    infinity_text c.args.text.now split.result.1.now split.result.0 c.infinity.result split.ensures.sign e c.infinity.ensures

-- each number of the grammar writes a float
written : (s : List ℕ) → ((x : Float) → WritesFloat (chars s) x → IsLongHexadecimal (chars s)) → NumberLit all_on (chars s) → IsLongHexadecimal (chars s)
written s h n = let w = grammar_writes (chars s) n in h w.0 w.1

-- the bits that represent no number
no_number : of_bits binary64 9221120237041090560 ≡ nan
unfolding of_bits
no_number = refl

pub returns-then-eq-2-clause-some : goal.returns-then-eq-2-clause-some
returns-then-eq-2-clause-some c =
    let split = c.split_sign-negative in
    let e = (bytes_eq-Decides split.result.1.now (codes "NaN")).0 (sym c.eq-2.ensures ∙ c.if-eq-2.true) in
    nan_text c.args.text.now split.result.1.now split.result.0 _ split.ensures.sign e no_number

pub returns-clause-some : goal.returns-clause-some
returns-clause-some c =
    let split = c.split_sign-negative in
    number_text c.args.text.now split.result.1.now split.result.0 c.nearest_f64.result split.ensures.sign c.nearest_f64.ensures.some

pub returns-clause-none : goal.returns-clause-none
returns-clause-none c =
    let split = c.split_sign-negative in
    let t = split.result.1.now in
    let no_infinity : t ≢ codes "Infinity" = λ e. true≢false (sym ((bytes_eq-Decides t (codes "Infinity")).1 e) ∙ sym c.eq.ensures ∙ c.if-eq.false) in
    let no_nan : t ≢ codes "NaN" = λ e. true≢false (sym ((bytes_eq-Decides t (codes "NaN")).1 e) ∙ sym c.eq-2.ensures ∙ c.if-eq-2.false) in
    let fails = no_text c.args.text.now t split.result.0 c.nearest_f64.result split.ensures.sign split.ensures.only c.utf8.text no_infinity no_nan c.nearest_f64.ensures.none in
    if_none_map c.nearest_f64.result (written c.args.text.now) fails
