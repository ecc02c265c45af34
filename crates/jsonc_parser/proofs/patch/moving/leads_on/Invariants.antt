use Rattle.std.proofs.Common.{◌≡◌, ◌≤◌, length, take}
use Rattle.jsonc_parser.specs.paths.Found.{names_of}
use Rattle.jsonc_parser.proofs.patch.moving.leads_on.Given as goal

abbrev pub invariant-loop-index : goal.invariant-loop-index
invariant-loop-index g l = (names_of (take l.index l.front) ≡ names_of (take l.index l.tokens)) × (length l.front ≤ length l.tokens)
