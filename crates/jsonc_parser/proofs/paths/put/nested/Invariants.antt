use Rattle.std.proofs.Common.{◌≡◌, ◌≤◌, drop, length}
use Rattle.jsonc_layout.specs.input.Views.{plain}
use Rattle.jsonc_parser.specs.paths.Found.{names_of}
use Rattle.jsonc_parser.specs.paths.Settings.{nest}
use Rattle.jsonc_parser.proofs.paths.put.nested.Given as goal

abbrev pub invariant-loop-count : goal.invariant-loop-count
invariant-loop-count g l = (plain l.nested ≡ nest (names_of (drop l.count l.names)) (plain l.fn.value)) × (l.count ≤ length l.names)

abbrev pub decreases-loop-count : goal.decreases-loop-count
decreases-loop-count g l = l.count
