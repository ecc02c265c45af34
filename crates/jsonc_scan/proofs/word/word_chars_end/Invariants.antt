use Rattle.std.proofs.Common.{ℕ, ◌-◌, ◌≤◌, List, IsCharBoundary, length}
use Rattle.jsonc_text.specs.Text.{rest, Many}
use Rattle.jsonc_text.specs.Words.{is_in_word}
use Rattle.jsonc_scan.proofs.word.word_chars_end.Given as goal

-- characters of a word so far
pub record Passed (text : List ℕ) (start place : ℕ) : Type 0 where
  pub boundary : IsCharBoundary text place
  pub order : start ≤ place
  pub chars : Many is_in_word (rest text start) (rest text place)

abbrev pub invariant-loop-c : goal.invariant-loop-c
invariant-loop-c l = Passed l.text l.start l.place

abbrev pub decreases-loop-c : goal.decreases-loop-c
decreases-loop-c l = length l.initial.text - l.place
