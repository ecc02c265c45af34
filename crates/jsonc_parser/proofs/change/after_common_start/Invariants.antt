use Rattle.std.proofs.Common.{chars, ◌≡◌, ◌++◌, ℕ, List, length}
use Rattle.jsonc_parser.proofs.change.after_common_start.Given as goal

abbrev pub invariant-loop-first : goal.invariant-loop-first
invariant-loop-first l = (front : List ℕ) × (chars l.old ≡ front ++ chars l.olds.rest.now) × (chars l.new ≡ front ++ chars l.news.rest.now)

abbrev pub decreases-loop-first : goal.decreases-loop-first
decreases-loop-first l = length l.olds.rest.now
