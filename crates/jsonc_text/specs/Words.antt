-- Keywords (RFC 8259, 3) and words (after JSON5, 3; wider).
use Rattle.std.specs.Prelude.{ℕ, ◌≡◌, ◌≢◌, Bool, true, false, ◌&&◌, ◌||◌, ◌==◌, Option, List, [], ◌++◌, IsTrue, codes, nat_lt}
use Rattle.jsonc_text.specs.Options.{Options}
use Rattle.jsonc_text.specs.Text.{next, no, starts, end_or, Many, is_digit, is_ascii_letter}
use Rattle.jsonc_text.specs.Gaps.{is_blank}
use Rattle.jsonc_text.specs.Letters.{is_wide_letter}

-- an ASCII letter or digit, `$`, or a letter or digit past ASCII: after these a keyword goes on
abbrev pub goes_on : ℕ → Bool
goes_on c = is_ascii_letter c || is_digit c || c == 0x24 || is_wide_letter c

-- `true`, `false`, `null` and a signed `Infinity` or `NaN` end before this
abbrev pub EndsThere : Option ℕ → Type 0
EndsThere n = IsTrue (no goes_on n)

-- an unsigned `Infinity` or `NaN` ends before this: besides, neither `-` nor `_`
abbrev pub EndsWhole : Option ℕ → Type 0
EndsWhole n = IsTrue (no (λ c. goes_on c || c == 0x2D || c == 0x5F) n)

-- a word begins with an ASCII letter, `_`, `$`, or a letter or digit past ASCII
abbrev pub begins_word : ℕ → Bool
begins_word c = is_ascii_letter c || c == 0x5F || c == 0x24 || is_wide_letter c

-- and goes on with these, ASCII digits and `-`
abbrev pub is_in_word : ℕ → Bool
is_in_word c = begins_word c || is_digit c || c == 0x2D

-- after a word: `:`, the end, a blank past ASCII, space, tab, LF, FF or CR
abbrev pub EndsWord : Option ℕ → Type 0
EndsWord n = IsTrue (end_or (λ c. c == 0x3A || c == 0x20 || c == 0x09 || c == 0x0A || c == 0x0C || c == 0x0D || (nat_lt 0x7F c && is_blank c)) n)

pub data Keyword : Type 0 where
  boolean : Bool → Keyword
  null : Keyword

abbrev pub keyword_text : Keyword → List ℕ
keyword_text (boolean true) = codes "true"
keyword_text (boolean false) = codes "false"
keyword_text null = codes "null"

-- t is the keyword, which ends there, and then r
abbrev pub IsKeyword : Keyword → List ℕ → List ℕ → Type 0
IsKeyword k t r = (t ≡ keyword_text k ++ r) × EndsThere (next r)

-- s is a word, before n
pub record WordLit (o : Options) (s : List ℕ) (n : Option ℕ) : Type 0 where
  pub begins : IsTrue (starts begins_word (next s))
  pub goes_on : Many is_in_word s []
  pub ends : EndsWord n
  -- no keyword that ends there begins the word
  pub no_keyword : (k : Keyword) (u : List ℕ) → IsKeyword k s u → ⊥
  -- nor is the word a number
  pub no_number : IsTrue o.non_finite_numbers → (s ≢ codes "Infinity") × (s ≢ codes "NaN")
