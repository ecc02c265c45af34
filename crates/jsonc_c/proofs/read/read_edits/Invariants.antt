use Rattle.std.proofs.Common.{◌≡◌, take}
use Rattle.jsonc_c.specs.Edits.{AreReadAs}
use Rattle.jsonc_c.proofs.read.read_edits.Given as goal

abbrev pub invariant-loop-count : goal.invariant-loop-count
invariant-loop-count l = record { read : AreReadAs (take l.count l.edits) l.read.items; left : l.fault ≡ l.fn.fault }
