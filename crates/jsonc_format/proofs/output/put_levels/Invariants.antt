use Rattle.std.proofs.Common.{◌≡◌, ◌≤◌, ◌++◌, length, take, reverse, map, chars}
use Rattle.jsonc_format.specs.Format.{indent}
use Rattle.jsonc_format.specs.Writing.{frame_of, text_of}
use Rattle.jsonc_format.proofs.output.put_levels.Given as goal

abbrev pub invariant-loop-left : goal.invariant-loop-left
invariant-loop-left g l = (l.left ≤ length l.frames) × (text_of l.out ++ indent (chars l.level) (map frame_of (reverse (take l.left l.frames))) ≡ text_of l.fn.out ++ indent (chars l.level) (map frame_of (reverse l.frames)))

abbrev pub decreases-loop-left : goal.decreases-loop-left
decreases-loop-left g l = l.left
