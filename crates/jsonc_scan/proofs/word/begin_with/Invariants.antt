use Rattle.std.proofs.Common.{◌≡◌, take}
use Rattle.jsonc_scan.proofs.word.begin_with.Given as goal

abbrev pub invariant-loop-place : goal.invariant-loop-place
invariant-loop-place l = take l.place l.bytes ≡ take l.place l.others
