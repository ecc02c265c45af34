use Rattle.std.proofs.Common.{◌≡◌, ◌++◌, ℕ, List, length, map}
use denote.Text.{Utf8}
use denote.Shadow.{shadow}
use Rattle.jsonc_diff.specs.Lines.{AreLines}
use Rattle.jsonc_diff.proofs.lines.lines_of.Given as goal

-- whatever lines the rest has, with those so far they are the lines of the text
abbrev pub invariant-loop-line : goal.invariant-loop-line
invariant-loop-line g l = record {
  text : shadow (Utf8 l.rest);
  so_far : (lines : List (List ℕ)) → AreLines lines l.rest → AreLines (map (λ line. line.now) l.lines.items ++ lines) l.fn.text;
}

abbrev pub decreases-loop-line : goal.decreases-loop-line
decreases-loop-line g l = length l.rest
