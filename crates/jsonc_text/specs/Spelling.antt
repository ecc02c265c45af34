-- How a string is written (RFC 8259, 7).
use Rattle.std.specs.Prelude.{ℕ, ◌/◌, ◌%◌, false, ◌==◌, Option, Some, None, List, [], ◌∷◌, ◌++◌, flat_map, if◌then◌else◌}
use Rattle.std.specs.Char.{is_control}
use Rattle.std.specs.Fmt.{digit_glyph}

-- the character that is written for c after a backslash, where JSON has such an escape
abbrev pub short_escape_of : ℕ → Option ℕ
short_escape_of c =
    if c == 0x22 then Some 0x22
    else (if c == 0x5C then Some 0x5C
    else (if c == 0x08 then Some 0x62
    else (if c == 0x0C then Some 0x66
    else (if c == 0x0A then Some 0x6E
    else (if c == 0x0D then Some 0x72
    else (if c == 0x09 then Some 0x74
    else None))))))

-- `\u` and the four lower-case hex digits of a character below 256
abbrev pub unit_escape : ℕ → List ℕ
unit_escape c = 0x5C ∷ 0x75 ∷ 0x30 ∷ 0x30 ∷ digit_glyph false (c / 16) ∷ digit_glyph false (c % 16) ∷ []

-- what is written for a character: its short escape, if any; or else its digits, if it is one of U+0000 to U+001F and U+007F to U+009F
abbrev pub spelled_by : Option ℕ → ℕ → List ℕ
spelled_by (Some d) c = 0x5C ∷ d ∷ []
spelled_by None c = if is_control c then unit_escape c else c ∷ []

abbrev pub spelled_char : ℕ → List ℕ
spelled_char c = spelled_by (short_escape_of c) c

-- what is written for characters between the quotes
abbrev pub spelled_inside : List ℕ → List ℕ
spelled_inside cs = flat_map spelled_char cs

-- what is written for a string
abbrev pub spelled : List ℕ → List ℕ
spelled cs = 0x22 ∷ spelled_inside cs ++ 0x22 ∷ []
