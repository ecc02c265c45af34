-- Characters, words and block comments at places of a text.
use Rattle.std.specs.Prelude.{ℕ, ◌+◌, ◌≡◌, ◌<◌, Bool, List, ◌++◌, IsTrue, ◌==◌, ◌||◌, ◌&&◌, nat_lt}
use Rattle.jsonc_text.specs.Gaps.{is_blank}
use Rattle.jsonc_text.specs.Text.{next, starts, Many}
use Rattle.jsonc_text.specs.Chars.{Steps}
use Rattle.jsonc_text.specs.Words.{EndsThere, EndsWhole, EndsWord, begins_word, is_in_word}

-- a character of one byte that passes the test stands at a place
abbrev pub HasAt : (ℕ → Bool) → List ℕ → ℕ → Type 0
HasAt p bytes place = (c : ℕ) × IsTrue (p c) × Steps bytes place c (place + 1)

-- a character that passes the test stands from one place to another
abbrev pub PassesOne : (ℕ → Bool) → List ℕ → ℕ → ℕ → Type 0
PassesOne p bytes start end = (c : ℕ) × IsTrue (p c) × Steps bytes start c end × (start < end)

-- t is the text s, which ends there as a keyword does, and then r
abbrev pub IsAlone : List ℕ → List ℕ → List ℕ → Type 0
IsAlone s t r = (t ≡ s ++ r) × EndsThere (next r)

-- the same, which ends there as an unsigned `Infinity` or `NaN` does
abbrev pub IsWhole : List ℕ → List ℕ → List ℕ → Type 0
IsWhole s t r = (t ≡ s ++ r) × EndsWhole (next r)

-- t is characters of a word, and then r, before which a word may end
pub record PassesWord (t r : List ℕ) : Type 0 where
  pub begins : IsTrue (starts begins_word (next t))
  pub goes_on : Many is_in_word t r
  pub ends : EndsWord (next r)

-- a character that may stand after a word
abbrev pub may_follow_word : ℕ → Bool
may_follow_word c = c == 0x3A || c == 0x20 || c == 0x09 || c == 0x0A || c == 0x0C || c == 0x0D || (nat_lt 0x7F c && is_blank c)
