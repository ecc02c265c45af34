use Rattle.std.proofs.Common.{◌-◌, chars, length, IsCharBoundary}
use Rattle.jsonc_text.specs.Text.{rest}
use Rattle.jsonc_parser.proofs.LineIndexing.{HasFound}
use Rattle.jsonc_parser.proofs.line_index.line_starts.Given as goal

abbrev pub invariant-loop-c : goal.invariant-loop-c
invariant-loop-c g l = record { boundary : IsCharBoundary l.text l.at; found : HasFound (chars l.text) (rest l.text l.at) l.starts.items }

abbrev pub decreases-loop-c : goal.decreases-loop-c
decreases-loop-c g l = length l.text - l.at
