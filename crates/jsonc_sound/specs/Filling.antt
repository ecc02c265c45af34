-- What stands between values: blanks, commas, colons and comments.
use Rattle.std.specs.Prelude.{ℕ, Bool, ◌||◌, ◌==◌, List, ◌∷◌, IsTrue}
use Rattle.jsonc_text.specs.Text.{next, no, rest, Spans}
use Rattle.jsonc_text.specs.Gaps.{is_blank, IsComment}

-- a comma or a colon
abbrev pub is_separator : ℕ → Bool
is_separator c = c == 0x2C || c == 0x3A

-- a character that stands between values outside comments
abbrev pub is_filling : ℕ → Bool
is_filling c = is_blank c || is_separator c

-- t is any number of these and of comments, and then r
pub data Filling : List ℕ → List ℕ → Type 0 where
  nothing : {r : List ℕ} → Filling r r
  character : {c : ℕ} {t r : List ℕ} → IsTrue (is_filling c) → Filling t r → Filling (c ∷ t) r
  comment : {t u r : List ℕ} → IsComment t u → Filling u r → Filling t r

-- t begins with a comment
abbrev pub BeginsComment : List ℕ → Type 0
BeginsComment t = (r : List ℕ) × IsComment t r

-- only these stand between two places of a text, and no blank follows
pub record IsFillable (bytes : List ℕ) (i j : ℕ) : Type 0 where
  pub spans : Spans bytes i j
  pub stands : Filling (rest bytes i) (rest bytes j)
  pub ends : IsTrue (no is_blank (next (rest bytes j)))
