-- What is written by itself.
use Rattle.std.proofs.Common.{ℕ, zero, suc, ◌≡◌, ◌≢◌, ◌∙◌, ◌<◌, sym, ap, refl, Bool, true, false, not, ◌==◌, ◌&&◌, nat_lt, cond, List, [], ◌∷◌, length, take, get_or, codes, IsUtf8, arith}
use Rattle.std.specs.Str.{chars, trim_end, drop_trailing_whitespace}
use Rattle.std.proofs.Math.Utf8.{scalar, scalars}
use lib.Utf8.{encode}
use Rattle.std.proofs.lemmas.Str.{IsCharBoundary-start, scalars-chars, chars-encodes, encode_ascii}
use Rattle.jsonc_text.proofs.Basics.{and_both}
use Rattle.jsonc_text.proofs.Cuts.{end_place, within_text}
use Rattle.jsonc_text.specs.Gaps.{is_blank}
use Rattle.jsonc_text.specs.Lexemes.{Scanned, lexeme, line_comment, block_comment}
use Rattle.jsonc_format.specs.Format.{is_line_comment, written}
use Rattle.jsonc_format.specs.Styles.{is_empty, tells_level}
use Rattle.jsonc_format.proofs.Trim.{trimmed}

-- a character of ASCII is one byte
pub one_byte : (row bytes : List ℕ) → row ≡ bytes → length row ≡ 1 → get_or row 0 0 < 128 → encode (get_or row 0 0) ≡ bytes
one_byte [] bytes e h k = absurd (omega (arith, h))
one_byte (b ∷ []) bytes e h k = encode_ascii b k ∙ e
one_byte (b ∷ c ∷ s) bytes e h k = absurd (omega (arith, h))

pub line_feed : chars (0x0A ∷ []) ≡ 0x0A ∷ []
unfolding chars
line_feed = refl

pub return_and_feed : chars (0x0D ∷ 0x0A ∷ []) ≡ 0x0D ∷ 0x0A ∷ []
unfolding chars
return_and_feed = refl

pub carriage_return : chars (0x0D ∷ []) ≡ 0x0D ∷ []
unfolding chars
carriage_return = refl

pub tab : chars (0x09 ∷ []) ≡ 0x09 ∷ []
unfolding chars
tab = refl

pub one_space : chars (0x20 ∷ []) ≡ 0x20 ∷ []
unfolding chars
one_space = refl

pub two_spaces : chars (0x20 ∷ 0x20 ∷ []) ≡ 0x20 ∷ 0x20 ∷ []
unfolding chars
two_spaces = refl

pub three_spaces : chars (0x20 ∷ 0x20 ∷ 0x20 ∷ []) ≡ 0x20 ∷ 0x20 ∷ 0x20 ∷ []
unfolding chars
three_spaces = refl

pub four_spaces : chars (0x20 ∷ 0x20 ∷ 0x20 ∷ 0x20 ∷ []) ≡ 0x20 ∷ 0x20 ∷ 0x20 ∷ 0x20 ∷ []
unfolding chars
four_spaces = refl

pub five_spaces : chars (0x20 ∷ 0x20 ∷ 0x20 ∷ 0x20 ∷ 0x20 ∷ []) ≡ 0x20 ∷ 0x20 ∷ 0x20 ∷ 0x20 ∷ 0x20 ∷ []
unfolding chars
five_spaces = refl

pub six_spaces : chars (0x20 ∷ 0x20 ∷ 0x20 ∷ 0x20 ∷ 0x20 ∷ 0x20 ∷ []) ≡ 0x20 ∷ 0x20 ∷ 0x20 ∷ 0x20 ∷ 0x20 ∷ 0x20 ∷ []
unfolding chars
six_spaces = refl

pub seven_spaces : chars (0x20 ∷ 0x20 ∷ 0x20 ∷ 0x20 ∷ 0x20 ∷ 0x20 ∷ 0x20 ∷ []) ≡ 0x20 ∷ 0x20 ∷ 0x20 ∷ 0x20 ∷ 0x20 ∷ 0x20 ∷ 0x20 ∷ []
unfolding chars
seven_spaces = refl

pub eight_spaces : chars (0x20 ∷ 0x20 ∷ 0x20 ∷ 0x20 ∷ 0x20 ∷ 0x20 ∷ 0x20 ∷ 0x20 ∷ []) ≡ 0x20 ∷ 0x20 ∷ 0x20 ∷ 0x20 ∷ 0x20 ∷ 0x20 ∷ 0x20 ∷ 0x20 ∷ []
unfolding chars
eight_spaces = refl

-- more than seven spaces are eight
pub at_least_eight : (n : ℕ) → (n ≡ 0 → ⊥) → (n ≡ 1 → ⊥) → (n ≡ 2 → ⊥) → (n ≡ 3 → ⊥) → (n ≡ 4 → ⊥) → (n ≡ 5 → ⊥) → (n ≡ 6 → ⊥) → (n ≡ 7 → ⊥)
    → 0x20 ∷ 0x20 ∷ 0x20 ∷ 0x20 ∷ 0x20 ∷ 0x20 ∷ 0x20 ∷ 0x20 ∷ [] ≡ take n (codes "        ")
at_least_eight zero a b c d e f g h = absurd (a refl)
at_least_eight (suc zero) a b c d e f g h = absurd (b refl)
at_least_eight (suc (suc zero)) a b c d e f g h = absurd (c refl)
at_least_eight (suc (suc (suc zero))) a b c d e f g h = absurd (d refl)
at_least_eight (suc (suc (suc (suc zero)))) a b c d e f g h = absurd (e refl)
at_least_eight (suc (suc (suc (suc (suc zero))))) a b c d e f g h = absurd (f refl)
at_least_eight (suc (suc (suc (suc (suc (suc zero)))))) a b c d e f g h = absurd (g refl)
at_least_eight (suc (suc (suc (suc (suc (suc (suc zero))))))) a b c d e f g h = absurd (h refl)
at_least_eight (suc (suc (suc (suc (suc (suc (suc (suc n)))))))) a b c d e f g h = ap (λ s. 0x20 ∷ 0x20 ∷ 0x20 ∷ 0x20 ∷ 0x20 ∷ 0x20 ∷ 0x20 ∷ 0x20 ∷ s) (none_of n)
  where
    none_of : (n : ℕ) → [] ≡ take {A = ℕ} n []
    none_of zero = refl
    none_of (suc n) = refl

-- a text without bytes has no characters
empty_text : (bytes : List ℕ) → IsUtf8 bytes → (length bytes == 0) ≡ is_empty (chars bytes)
empty_text bytes u = by_text (chars bytes) refl
  where
    no_bytes : (n : ℕ) → n ≡ 0 → (n == 0) ≡ true
    no_bytes n e = grind (arith, e)

    some_bytes : (n : ℕ) → 0 < n → (n == 0) ≡ false
    some_bytes n h = grind (arith, h)

    by_text : (s : List ℕ) → chars bytes ≡ s → (length bytes == 0) ≡ is_empty (chars bytes)
    by_text [] e = no_bytes (length bytes) (sym (end_place bytes 0 u (IsCharBoundary-start bytes u) e)) ∙ sym (ap is_empty e)
    by_text (c ∷ s) e = some_bytes (length bytes) (within_text bytes s 0 c (IsCharBoundary-start bytes u) e) ∙ sym (ap is_empty e)

pub told_by_length : (depth : ℕ) (line : List ℕ) (empty : Bool) → IsUtf8 line → depth ≢ 0 → empty ≡ (length line == 0) → not empty ≡ tells_level depth (chars line)
told_by_length depth line empty u n e = ap not (e ∙ empty_text line u) ∙ ap (λ b. b && not (is_empty (chars line))) (sym (inside depth n))
  where
    inside : (depth : ℕ) → depth ≢ 0 → nat_lt 0 depth ≡ true
    inside zero n = absurd (n refl)
    inside (suc depth) n = grind arith

-- what is written of a line comment
scalars_left : (s : List ℕ) → scalars s ≡ true → scalars (drop_trailing_whitespace s) ≡ true
scalars_left [] h = refl
scalars_left (c ∷ s) h = each (and_both (scalar c) (scalars s) h).0 (scalars_left s (and_both (scalar c) (scalars s) h).1)
  where
    both_true : (a b : Bool) → a ≡ true → b ≡ true → a && b ≡ true
    both_true true true e f = refl
    both_true true false e f = cc
    both_true false b e f = cc

    by_test : (b : Bool) (t : List ℕ) → scalar c ≡ true → scalars t ≡ true → scalars (cond b [] (c ∷ t)) ≡ true
    by_test true t e f = refl
    by_test false t e f = both_true (scalar c) (scalars t) e f

    each : scalar c ≡ true → scalars (drop_trailing_whitespace s) ≡ true → scalars (drop_trailing_whitespace (c ∷ s)) ≡ true
    each e f = by_test (is_blank c && length (drop_trailing_whitespace s) == 0) (drop_trailing_whitespace s) e f

pub line_written : (w : Scanned) (bytes short : List ℕ) → IsUtf8 bytes → short ≡ trim_end bytes → is_line_comment w ≡ true → chars short ≡ written w (chars bytes)
unfolding trim_end
line_written (lexeme k) bytes short u e h = cc
line_written (block_comment c) bytes short u e h = cc
line_written (line_comment c) bytes short u e h = ap chars e ∙ chars-encodes (drop_trailing_whitespace (chars bytes)) (scalars_left (chars bytes) (scalars-chars bytes u)) ∙ trimmed (chars bytes)
