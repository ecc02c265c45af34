-- The string that a literal stands for, computed from its characters (RFC 8259, 7; the extended escapes are those of JSON5, 5).
use Rattle.std.specs.Prelude.{ℕ, zero, suc, List, [], ◌∷◌, ◌++◌, ◌==◌, if◌then◌else◌, chars, slice_range}
use Rattle.jsonc_text.specs.Text.{next, starts}
use Rattle.jsonc_text.specs.Strings.{Meaning, gives, extended, code_unit, code_byte, nul, line_end, carriage_return, refused, meaning, hex2, hex4, is_high_surrogate, pair_char}

-- what an escape stands for, and the number of its characters after the backslash
pub record Escaped : Type 0 where
  pub value : List ℕ
  pub width : ℕ

abbrev pub escaped : List ℕ → ℕ → Escaped
escaped v n = record { value = v; width = n }

-- none
abbrev pub no_escape : Escaped
no_escape = escaped [] 0

-- a high surrogate before t
abbrev pub pair_of : ℕ → List ℕ → Escaped
pair_of high (m ∷ u ∷ a ∷ b ∷ c ∷ d ∷ r) = escaped (pair_char high (hex4 a b c d) ∷ []) 11
pair_of high t = no_escape

-- `\u` before t
abbrev pub unit_of : List ℕ → Escaped
unit_of (a ∷ b ∷ c ∷ d ∷ r) = if is_high_surrogate (hex4 a b c d) then pair_of (hex4 a b c d) r else escaped (hex4 a b c d ∷ []) 5
unit_of t = no_escape

-- `\x` before t
abbrev pub byte_of : List ℕ → Escaped
byte_of (a ∷ b ∷ r) = escaped (hex2 a b ∷ []) 3
byte_of t = no_escape

-- a backslash and a character of this meaning, before t
abbrev pub escape_of : Meaning → List ℕ → Escaped
escape_of (gives c) t = escaped (c ∷ []) 1
escape_of (extended c) t = escaped (c ∷ []) 1
escape_of code_unit t = unit_of t
escape_of code_byte t = byte_of t
escape_of nul t = escaped (0 ∷ []) 1
escape_of line_end t = escaped [] 1
escape_of carriage_return t = escaped [] (if starts (λ c. c == 0x0A) (next t) then 2 else 1)
escape_of refused t = no_escape

-- a backslash before t, between quotes q
abbrev pub escape_before : ℕ → List ℕ → Escaped
escape_before q [] = no_escape
escape_before q (c ∷ t) = escape_of (meaning q c) t

-- what t stands for up to the quote q, where its first n characters belong to what was read before
abbrev pub value_before : ℕ → ℕ → List ℕ → List ℕ
value_before q n [] = []
value_before q (suc n) (c ∷ t) = value_before q n t
value_before q zero (c ∷ t) =
    if c == q then []
    else (if c == 0x5C then (escape_before q t).value ++ value_before q (escape_before q t).width t
    else c ∷ value_before q 0 t)

-- what a literal stands for: its first character is its quote
abbrev pub literal_value : List ℕ → List ℕ
literal_value [] = []
literal_value (q ∷ t) = value_before q 0 t

-- what the literal from one place of a text to another stands for, whatever the options
abbrev pub string_value : List ℕ → ℕ → ℕ → List ℕ
string_value bytes start end = literal_value (chars (slice_range bytes start end))
