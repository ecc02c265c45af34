use Rattle.std.proofs.Common.{◌++◌, refl, map, reverse, chars}
use Rattle.jsonc_format.specs.Format.{indent}
use Rattle.jsonc_format.specs.Writing.{frame_of, text_of}
use Rattle.jsonc_format.proofs.Closing.{levels_next}
use Rattle.jsonc_format.proofs.output.put_levels.Goals as goal

pub loop-left-preserved : goal.loop-left-preserved
loop-left-preserved g c =
    let h = c.loop-left.invariant in
    levels_next (chars c.args.level.now) c.args.frames.now c.loop-left.left _ _ (text_of c.loop-left.out) (text_of c.put_level.new.out) (text_of c.args.out.now ++ indent (chars c.args.level.now) (map frame_of (reverse c.args.frames.now)))
    c.loop-left-test.true h.0 refl c.in_ok-put_level.ensures h.1
