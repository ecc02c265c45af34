use Rattle.std.proofs.Common.{chars, ◌≡◌, ◌++◌, ℕ, List, length, IsUtf8}
use Rattle.jsonc_parser.proofs.change.before_common_end.Given as goal

abbrev pub invariant-loop-last : goal.invariant-loop-last
invariant-loop-last l = (l.olds.rest.now ≡ l.was) × (l.news.rest.now ≡ l.now) × IsUtf8 l.was × IsUtf8 l.now
    × (back : List ℕ) × (chars l.old ≡ chars l.was ++ back) × (chars l.new ≡ chars l.now ++ back)

abbrev pub decreases-loop-last : goal.decreases-loop-last
decreases-loop-last l = length l.olds.rest.now
