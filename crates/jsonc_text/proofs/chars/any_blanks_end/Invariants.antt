use Rattle.std.proofs.Common.{ℕ, ◌+◌, ◌-◌, ◌<◌, ◌≡◌, List, IsTrue, length}
use Rattle.jsonc_text.specs.Text.{rest, next, no}
use Rattle.jsonc_text.specs.Chars.{Steps}
use Rattle.jsonc_text.specs.Gaps.{is_blank}
use Rattle.jsonc_text.proofs.CharRuns.{Passes}
use Rattle.jsonc_text.proofs.chars.any_blanks_end.Given as goal

-- blanks so far, and what the length says of the blank at the place
pub record Skips (text : List ℕ) (start place len : ℕ) : Type 0 where
  pub blanks : Passes is_blank text start place
  pub none : len ≡ 0 → IsTrue (no is_blank (next (rest text place)))
  pub some : 0 < len → (c : ℕ) × IsTrue (is_blank c) × Steps text place c (place + len)

abbrev pub invariant-loop-len : goal.invariant-loop-len
invariant-loop-len l = Skips l.text l.start l.place l.len

abbrev pub decreases-loop-len : goal.decreases-loop-len
decreases-loop-len l = length l.text - l.place
