use Rattle.std.proofs.Common.{◌-◌, length}
use Rattle.jsonc_walk.specs.Context.{text_in, token_end}
use Rattle.jsonc_walk.proofs.lemmas.Scans.{Passing}
use Rattle.jsonc_walk.proofs.context.Context.scan_on.Given as goal

abbrev pub invariant-loop-found : goal.invariant-loop-found
invariant-loop-found g l = Passing l.fn.self l.self

abbrev pub decreases-loop-found : goal.decreases-loop-found
decreases-loop-found g l = length (text_in l.self) - token_end l.self
