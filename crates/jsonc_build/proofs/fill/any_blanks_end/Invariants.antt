use Rattle.std.proofs.Common.{◌-◌, length}
use Rattle.jsonc_sound.specs.Leaves.{is_inner_blank}
use Rattle.jsonc_build.proofs.PassedCharacters.{Passes}
use Rattle.jsonc_build.proofs.fill.any_blanks_end.Given as goal

abbrev pub invariant-loop-len : goal.invariant-loop-len
invariant-loop-len l = Passes is_inner_blank l.text l.start l.place l.len

abbrev pub decreases-loop-len : goal.decreases-loop-len
decreases-loop-len l = length l.text - l.place
