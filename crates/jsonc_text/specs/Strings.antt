-- What stands between two quotes, and the string that it stands for (RFC 8259, 7; the extended escapes are those of JSON5, 5).
use Rattle.std.specs.Prelude.{ℕ, ◌+◌, ◌-◌, ◌*◌, ◌≡◌, ◌≢◌, Bool, not, ◌&&◌, ◌||◌, ◌==◌, List, [], ◌∷◌, ◌++◌, IsTrue, if◌then◌else◌}
use Rattle.std.specs.Char.{digit_value}
use Rattle.std.specs.Int.{is_in_range}
use Rattle.jsonc_text.specs.Options.{Options}
use Rattle.jsonc_text.specs.Text.{next, starts, is_digit, is_hex_digit}

-- what a backslash before a character means: a character, always or as an extended escape, or more by what follows
pub data Meaning : Type 0 where
  gives : ℕ → Meaning
  extended : ℕ → Meaning
  code_unit : Meaning
  code_byte : Meaning
  nul : Meaning
  line_end : Meaning
  carriage_return : Meaning
  refused : Meaning

-- of a backslash before c, between quotes q
abbrev pub meaning : ℕ → ℕ → Meaning
meaning q c =
    if c == 0x5C then gives 0x5C
    else (if c == 0x2F then gives 0x2F
    else (if c == 0x62 then gives 0x08
    else (if c == 0x66 then gives 0x0C
    else (if c == 0x6E then gives 0x0A
    else (if c == 0x72 then gives 0x0D
    else (if c == 0x74 then gives 0x09
    else (if c == 0x75 then code_unit
    else (if c == 0x76 then extended 0x0B
    else (if c == 0x78 then code_byte
    else (if c == 0x30 then nul
    else (if is_digit c then refused
    else (if c == 0x0A || c == 0x2028 || c == 0x2029 then line_end
    else (if c == 0x0D then carriage_return
    else (if c == q then gives q
    else extended c))))))))))))))

-- the number that hex digits write
abbrev pub hex2 : ℕ → ℕ → ℕ
hex2 a b = digit_value a * 16 + digit_value b

abbrev pub hex4 : ℕ → ℕ → ℕ → ℕ → ℕ
hex4 a b c d = hex2 a b * 256 + hex2 c d

abbrev pub AreHex4 : ℕ → ℕ → ℕ → ℕ → Type 0
AreHex4 a b c d = IsTrue (is_hex_digit a && is_hex_digit b && is_hex_digit c && is_hex_digit d)

abbrev pub is_high_surrogate : ℕ → Bool
is_high_surrogate = is_in_range 0xD800 0xDBFF

abbrev pub is_low_surrogate : ℕ → Bool
is_low_surrogate = is_in_range 0xDC00 0xDFFF

abbrev pub is_surrogate : ℕ → Bool
is_surrogate = is_in_range 0xD800 0xDFFF

-- the character that a pair of surrogates writes
abbrev pub pair_char : ℕ → ℕ → ℕ
pair_char high low = (high - 0xD800) * 0x400 + (low - 0xDC00) + 0x1_0000

-- t is one piece, between quotes q, that stands for the characters in the middle, and then r
pub data Piece (o : Options) (q : ℕ) : List ℕ → List ℕ → List ℕ → Type 0 where
  itself : {c : ℕ} {r : List ℕ} → c ≢ q → c ≢ 0x5C → Piece o q (c ∷ r) (c ∷ []) r
  plain : {c d : ℕ} {r : List ℕ} → meaning q c ≡ gives d → Piece o q (0x5C ∷ c ∷ r) (d ∷ []) r
  -- `\u` and four hex digits, of no surrogate or of a pair
  unit : {a b c d : ℕ} {r : List ℕ} → AreHex4 a b c d → IsTrue (not (is_surrogate (hex4 a b c d)))
      → Piece o q (0x5C ∷ 0x75 ∷ a ∷ b ∷ c ∷ d ∷ r) (hex4 a b c d ∷ []) r
  pair : {a b c d e f g h : ℕ} {r : List ℕ} → AreHex4 a b c d → IsTrue (is_high_surrogate (hex4 a b c d))
      → AreHex4 e f g h → IsTrue (is_low_surrogate (hex4 e f g h))
      → Piece o q (0x5C ∷ 0x75 ∷ a ∷ b ∷ c ∷ d ∷ 0x5C ∷ 0x75 ∷ e ∷ f ∷ g ∷ h ∷ r) (pair_char (hex4 a b c d) (hex4 e f g h) ∷ []) r
  -- the extended escapes
  other : {c d : ℕ} {r : List ℕ} → IsTrue o.extended_escapes → meaning q c ≡ extended d → Piece o q (0x5C ∷ c ∷ r) (d ∷ []) r
  zero : {r : List ℕ} → IsTrue o.extended_escapes → IsTrue (starts (λ c. not (is_digit c)) (next r)) → Piece o q (0x5C ∷ 0x30 ∷ r) (0 ∷ []) r
  byte : {a b : ℕ} {r : List ℕ} → IsTrue o.extended_escapes → IsTrue (is_hex_digit a && is_hex_digit b) → Piece o q (0x5C ∷ 0x78 ∷ a ∷ b ∷ r) (hex2 a b ∷ []) r
  -- a line end after a backslash stands for nothing; CR LF is one
  line : {c : ℕ} {r : List ℕ} → IsTrue o.extended_escapes → meaning q c ≡ line_end → Piece o q (0x5C ∷ c ∷ r) [] r
  lone_cr : {r : List ℕ} → IsTrue o.extended_escapes → IsTrue (starts (λ c. not (c == 0x0A)) (next r)) → Piece o q (0x5C ∷ 0x0D ∷ r) [] r
  cr_lf : {r : List ℕ} → IsTrue o.extended_escapes → Piece o q (0x5C ∷ 0x0D ∷ 0x0A ∷ r) [] r

-- t is pieces that stand for the string v, and then r
pub data Pieces (o : Options) (q : ℕ) : List ℕ → List ℕ → List ℕ → Type 0 where
  done : {r : List ℕ} → Pieces o q r [] r
  piece : {t u r p v w : List ℕ} → Piece o q t p u → Pieces o q u v r → w ≡ p ++ v → Pieces o q t w r

-- the text s between two quotes q stands for the string v
abbrev pub Decodes : Options → ℕ → List ℕ → List ℕ → Type 0
Decodes o q s v = Pieces o q (s ++ q ∷ []) v (q ∷ [])

-- `"`, or `'` under its option
abbrev pub IsQuote : Options → ℕ → Type 0
IsQuote o q = IsTrue (q == 0x22 || (q == 0x27 && o.single_quoted_strings))

-- t is a string between quotes that stands for v, and then r
abbrev pub IsString : Options → List ℕ → List ℕ → List ℕ → Type 0
IsString o t v r = (q : ℕ) × (s : List ℕ) × IsQuote o q × (t ≡ (q ∷ s) ++ q ∷ r) × Decodes o q s v
