-- Block comments (JSON5, 7) at places of a text.
use Rattle.std.specs.Prelude.{ℕ, ◌+◌, ◌≤◌, List, IsCharBoundary, chars, slice_range}
use Rattle.jsonc_text.specs.Chars.{Steps}
use Rattle.jsonc_text.specs.Gaps.{HasNoEndInside}

-- the text of a block comment begins at a place, and its `*/` stands at another
pub record HoldsBlock (bytes : List ℕ) (start close : ℕ) : Type 0 where
  pub boundary : IsCharBoundary bytes close
  pub order : start ≤ close
  pub text : HasNoEndInside (chars (slice_range bytes start close))
  pub star : Steps bytes close 0x2A (close + 1)
  pub slash : Steps bytes (close + 1) 0x2F (close + 2)
