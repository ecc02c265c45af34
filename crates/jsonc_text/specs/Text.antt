-- A text is a list of characters, each a code point: of a `&str` s it is `chars s.now`.
-- A relation on two texts t and r says what stands at the front of t, and that r is what follows it.
use Rattle.std.specs.Char.{is_ascii_digit, is_ascii_hexdigit, is_ascii_alphabetic}
use Rattle.std.specs.Prelude.{ℕ, ◌≤◌, Bool, true, false, not, ◌||◌, Option, Some, None, List, [], ◌∷◌, length, encode_utf8_all, chars, drop, IsCharBoundary, IsTrue, ◌==◌}

-- the character after a piece, or none at the end: the first character of what follows
abbrev pub next : List ℕ → Option ℕ
next [] = None
next (c ∷ r) = Some c

-- what follows is a character that passes the test
abbrev pub starts : (ℕ → Bool) → Option ℕ → Bool
starts p None = false
starts p (Some c) = p c

-- what follows is the end, or a character that passes the test
abbrev pub end_or : (ℕ → Bool) → Option ℕ → Bool
end_or p None = true
end_or p (Some c) = p c

-- what follows is no character that passes the test
abbrev pub no : (ℕ → Bool) → Option ℕ → Bool
no p None = true
no p (Some c) = not (p c)

-- t is characters that pass the test, any number of them, and then r
pub data Many (p : ℕ → Bool) : List ℕ → List ℕ → Type 0 where
  stop : {r : List ℕ} → Many p r r
  step : {c : ℕ} {t r : List ℕ} → IsTrue (p c) → Many p t r → Many p (c ∷ t) r

-- the same, at least one, and all that stand there
pub data AllOf (p : ℕ → Bool) : List ℕ → List ℕ → Type 0 where
  all_of : {c : ℕ} {t r : List ℕ} → IsTrue (p c) → Many p t r → IsTrue (no p (next r)) → AllOf p (c ∷ t) r

abbrev pub is_digit : ℕ → Bool
is_digit = is_ascii_digit

abbrev pub is_hex_digit : ℕ → Bool
is_hex_digit = is_ascii_hexdigit

abbrev pub is_ascii_letter : ℕ → Bool
is_ascii_letter = is_ascii_alphabetic

-- LF and CR
abbrev pub is_line_end : ℕ → Bool
is_line_end c = c == 0x0A || c == 0x0D

-- the number of UTF-8 bytes of a text; a place is that of the characters before it
abbrev pub byte_length : List ℕ → ℕ
byte_length s = length (encode_utf8_all s)

-- what stands in the bytes of a text from a place on
abbrev pub rest : List ℕ → ℕ → List ℕ
rest bytes place = chars (drop place bytes)

-- two places of a text on character boundaries, the first not after the second
pub record Spans (bytes : List ℕ) (start end : ℕ) : Type 0 where
  pub from : IsCharBoundary bytes start
  pub to : IsCharBoundary bytes end
  pub order : start ≤ end
