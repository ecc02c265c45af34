-- Names as faults show them: as JSON strings are written (RFC 8259, 7), with no character that ends a line, moves a cursor or turns the direction of text.
use Rattle.std.specs.Prelude.{ℕ, ◌/◌, ◌%◌, false, ◌==◌, ◌||◌, Bool, Option, Some, None, List, [], ◌∷◌, ◌++◌, flat_map, if◌then◌else◌, codes, chars, encode_utf8_all}
use Rattle.std.specs.Char.{is_control}
use Rattle.std.specs.Fmt.{digit_glyph}
use Rattle.std.specs.Int.{is_in_range}
use Rattle.jsonc_text.specs.Spelling.{short_escape_of}

-- U+0000 to U+001F, U+007F to U+009F, the separators of lines and paragraphs, and the marks of direction
abbrev pub is_unseen : ℕ → Bool
is_unseen c = is_control c || (c == 0x061C || (is_in_range 0x200E 0x200F c || (is_in_range 0x2028 0x202E c || is_in_range 0x2066 0x2069 c)))

-- `\u` and four lower-case hex digits
abbrev pub code_escape : ℕ → List ℕ
code_escape c = 0x5C ∷ 0x75 ∷ digit_glyph false (c / 4096) ∷ digit_glyph false (c / 256 % 16) ∷ digit_glyph false (c / 16 % 16) ∷ digit_glyph false (c % 16) ∷ []

-- what is shown for a character: its short escape, if JSON has one; or else its code, if it is not seen
abbrev pub shown_by : Option ℕ → ℕ → List ℕ
shown_by (Some d) c = 0x5C ∷ d ∷ []
shown_by None c = if is_unseen c then code_escape c else c ∷ []

abbrev pub shown_char : ℕ → List ℕ
shown_char c = shown_by (short_escape_of c) c

-- what is shown for characters, after the first quote
abbrev pub shown_inside : List ℕ → List ℕ
shown_inside cs = 0x22 ∷ flat_map shown_char cs

-- what is shown for a text
abbrev pub quoted : List ℕ → List ℕ
quoted text = encode_utf8_all (shown_inside (chars text)) ++ codes "\""

-- how a fault tells that a name occurs more than once
abbrev pub repeated_name_text : List ℕ → List ℕ
repeated_name_text name = codes "Name stands twice: " ++ quoted name
