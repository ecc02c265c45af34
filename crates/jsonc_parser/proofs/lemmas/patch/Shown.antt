-- What is shown for names, one character after another.
use Rattle.std.proofs.Common.{◌≡◌, ◌∙◌, ◌++◌, ◌∷◌, ◌/◌, ◌%◌, [], ℕ, List, Option, Some, false, ap, encode_utf8, encode_utf8_all, flat_map, sym}
use Rattle.std.proofs.lemmas.Grind.{flat_map-append}
use Rattle.std.proofs.lemmas.List.{append-nil}
use Rattle.std.proofs.lemmas.Str.{encodes-append}
use Rattle.std.specs.Fmt.{digit_glyph}
use Rattle.jsonc_text.specs.Spelling.{short_escape_of}
use Rattle.jsonc_parser.specs.patch.Quoting.{code_escape, shown_by, shown_char, shown_inside}

four_written : (a b d e : ℕ) → encode_utf8 0x5C ++ (encode_utf8 0x75 ++ (encode_utf8 a ++ (encode_utf8 b ++ (encode_utf8 d ++ encode_utf8 e)))) ≡ encode_utf8_all (0x5C ∷ 0x75 ∷ a ∷ b ∷ d ∷ e ∷ [])
four_written a b d e = ap (λ l. encode_utf8 0x5C ++ (encode_utf8 0x75 ++ (encode_utf8 a ++ (encode_utf8 b ++ (encode_utf8 d ++ l))))) (sym (append-nil (encode_utf8 e)))

-- the escape of a code, digit by digit
pub code_written : (code a b d e : ℕ) → a ≡ digit_glyph false (code / 4096) → b ≡ digit_glyph false (code / 256 % 16) → d ≡ digit_glyph false (code / 16 % 16) → e ≡ digit_glyph false (code % 16)
    → encode_utf8 0x5C ++ (encode_utf8 0x75 ++ (encode_utf8 a ++ (encode_utf8 b ++ (encode_utf8 d ++ encode_utf8 e)))) ≡ encode_utf8_all (code_escape code)
code_written code a b d e p q r s =
    four_written a b d e
    ∙ ap (λ k. encode_utf8_all (0x5C ∷ 0x75 ∷ k ∷ b ∷ d ∷ e ∷ [])) p
    ∙ ap (λ k. encode_utf8_all (0x5C ∷ 0x75 ∷ digit_glyph false (code / 4096) ∷ k ∷ d ∷ e ∷ [])) q
    ∙ ap (λ k. encode_utf8_all (0x5C ∷ 0x75 ∷ digit_glyph false (code / 4096) ∷ digit_glyph false (code / 256 % 16) ∷ k ∷ e ∷ [])) r
    ∙ ap (λ k. encode_utf8_all (0x5C ∷ 0x75 ∷ digit_glyph false (code / 4096) ∷ digit_glyph false (code / 256 % 16) ∷ digit_glyph false (code / 16 % 16) ∷ k ∷ [])) s

-- a short escape
pub short_written : (c d : ℕ) (o : Option ℕ) → o ≡ short_escape_of c → o ≡ Some d → encode_utf8 0x5C ++ encode_utf8 d ≡ encode_utf8_all (shown_char c)
short_written c d o e f = ap (λ l. encode_utf8 0x5C ++ l) (sym (append-nil (encode_utf8 d))) ∙ ap (λ p. encode_utf8_all (shown_by p c)) (sym f ∙ e)

inside_more : (cs : List ℕ) (c : ℕ) → shown_inside (cs ++ c ∷ []) ≡ shown_inside cs ++ shown_char c
inside_more cs c = ap (λ l. 0x22 ∷ l) (flat_map-append shown_char cs (c ∷ []) ∙ ap (λ l. flat_map shown_char cs ++ l) (append-nil (shown_char c)))

-- one character more
pub shown_more : (cs : List ℕ) (c : ℕ) → encode_utf8_all (shown_inside cs) ++ encode_utf8_all (shown_char c) ≡ encode_utf8_all (shown_inside (cs ++ c ∷ []))
shown_more cs c = sym (encodes-append (shown_inside cs) (shown_char c)) ∙ ap encode_utf8_all (sym (inside_more cs c))
