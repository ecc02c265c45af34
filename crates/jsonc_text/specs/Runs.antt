-- Runs of bytes that pass a test.
use Rattle.std.specs.Prelude.{ℕ, ◌≡◌, ◌≤◌, ◌<◌, ◌+◌, ◌⊎◌, Bool, false, not, ◌==◌, ◌||◌, List, length, get_or, map, IsTrue}
use Rattle.std.specs.Simd.Lanes.{chunk, mask_l}
use Rattle.jsonc_text.specs.Text.{is_digit}

-- one of two bytes
abbrev pub is_either : ℕ → ℕ → ℕ → Bool
is_either a b c = c == a || c == b

-- a byte that is no ASCII digit
abbrev pub is_no_digit : ℕ → Bool
is_no_digit c = not (is_digit c)

-- the bytes from one place to another pass the test, and the next one, if there is one, fails it
pub record RunsTo (p : ℕ → Bool) (bytes : List ℕ) (start end : ℕ) : Type 0 where
  pub order : start ≤ end
  pub within : end ≤ length bytes
  pub pass : (k : ℕ) → start ≤ k → k < end → IsTrue (p (get_or bytes k 0))
  pub stops : end < length bytes → p (get_or bytes end 0) ≡ false

-- a bit for each of the sixteen bytes at a place: whether it is no digit; or none, where the bytes are fewer
abbrev pub IsDigitMask : List ℕ → ℕ → ℕ → Type 0
IsDigitMask bytes place mask = ((length bytes < place + 16) × (mask ≡ 0)) ⊎ ((place + 16 ≤ length bytes) × (mask ≡ mask_l (map is_no_digit (chunk place 16 bytes))))
