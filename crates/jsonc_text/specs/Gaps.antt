-- Blanks (RFC 8259, 2; JSON5, 8), comments (JSON5, 7) and the gaps that they make.
use Rattle.std.specs.Prelude.{ℕ, ◌≡◌, ◌++◌, Bool, false, not, ◌&&◌, ◌||◌, ◌==◌, List, [], ◌∷◌, IsTrue, ◌⊎◌, nat_lt}
use Rattle.jsonc_text.specs.Options.{Options}
use Rattle.jsonc_text.specs.Text.{next, no, Many, is_line_end}

-- U+0009 to U+000D, the space, and past ASCII the characters with White_Space; U+FEFF is none
abbrev pub is_blank : ℕ → Bool
is_blank c =
    (nat_lt 0x08 c && nat_lt c 0x0E) || c == 0x20 || c == 0x85 || c == 0xA0 || c == 0x1680
    || (nat_lt 0x1FFF c && nat_lt c 0x200B) || c == 0x2028 || c == 0x2029 || c == 0x202F || c == 0x205F || c == 0x3000

-- no LF or CR
abbrev pub is_in_line : ℕ → Bool
is_in_line c = not (is_line_end c)

-- `//`, and all up to, without, the next LF or CR, or to the end
pub data LineComment : List ℕ → List ℕ → Type 0 where
  line : {t r : List ℕ} → Many is_in_line t r → IsTrue (no is_in_line (next r)) → LineComment (0x2F ∷ 0x2F ∷ t) r

-- `*/` stands at the front
abbrev pub ends_block : List ℕ → Bool
ends_block [] = false
ends_block (c ∷ []) = false
ends_block (c ∷ d ∷ t) = c == 0x2A && d == 0x2F

-- t is characters up to and with the first `*/`, and then r
pub data UpToBlockEnd : List ℕ → List ℕ → Type 0 where
  here : {r : List ℕ} → UpToBlockEnd (0x2A ∷ 0x2F ∷ r) r
  later : {c : ℕ} {t r : List ℕ} → IsTrue (not (ends_block (c ∷ t))) → UpToBlockEnd t r → UpToBlockEnd (c ∷ t) r

-- `/*`, and all up to and with the first `*/` that begins after it
pub data BlockComment : List ℕ → List ℕ → Type 0 where
  block : {t r : List ℕ} → UpToBlockEnd t r → BlockComment (0x2F ∷ 0x2A ∷ t) r

-- no `*/` stands in s and the `*/` after it but that one
abbrev pub HasNoEndInside : List ℕ → Type 0
HasNoEndInside s = (a b : List ℕ) → s ++ 0x2A ∷ 0x2F ∷ [] ≡ a ++ 0x2A ∷ 0x2F ∷ b → b ≡ []

-- t is a comment, and then r
abbrev pub IsComment : List ℕ → List ℕ → Type 0
IsComment t r = LineComment t r ⊎ BlockComment t r

-- t is blanks and, where o allows them, comments, and then r
pub data Gap (o : Options) : List ℕ → List ℕ → Type 0 where
  none : {r : List ℕ} → Gap o r r
  blank : {c : ℕ} {t r : List ℕ} → IsTrue (is_blank c) → Gap o t r → Gap o (c ∷ t) r
  comment : {t u r : List ℕ} → IsTrue o.comments → IsComment t u → Gap o u r → Gap o t r
