use Rattle.std.proofs.Common.{◌≡◌, take}
use Rattle.jsonc_diff.proofs.Scripts.{texts}
use Rattle.jsonc_diff.proofs.script.same_len.Given as goal

abbrev pub invariant-loop-count : goal.invariant-loop-count
invariant-loop-count l = texts (take l.count l.old) ≡ texts (take l.count l.new)
