-- What was written so far.
use Rattle.std.specs.Prelude.{ℕ, ◌≡◌, ◌++◌, List, String, chars, string_bytes}

abbrev pub text_of : {A : Type 0} → String A → List ℕ
text_of s = chars (string_bytes s)

-- something has been written behind it
pub record Adds (is_it : List ℕ → Type 0) (old new : List ℕ) : Type 0 where
  pub more : List ℕ
  pub is : is_it more
  pub behind : new ≡ old ++ more
