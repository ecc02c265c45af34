use Rattle.std.proofs.Common.{All, arith, chars, subst, sym}
use Rattle.std.proofs.lemmas.List.Elements.{All-push}
use Rattle.jsonc_parser.specs.LineStarts.{IsMark}
use Rattle.jsonc_parser.proofs.LineWalk.{place_boundary}
use Rattle.jsonc_parser.proofs.line_index.mark_line.Goals as goal

pub moved_to-here-requires-clause-spans : goal.moved_to-here-requires-clause-spans
moved_to-here-requires-clause-spans g c = record {
  from = place_boundary _ c.args.text.now c.loop-here.here.place _ _ c.utf8.text c.loop-here.invariant.here.characters;
  to = c.ceil_char_boundary-place.ensures.boundary;
  order = omega (arith, c.ceil_char_boundary-place.ensures.bound);
}

pub loop-here-preserved : goal.loop-here-preserved
loop-here-preserved g c =
    let mark : IsMark (chars c.args.text.now) c.moved_to-here.result = c.moved_to-here.ensures.mark in
    record {
      here = mark;
      marks = subst (All (IsMark (chars c.args.text.now))) (sym c.in_ok-push.ensures.items) (All-push (IsMark (chars c.args.text.now)) _ _ c.loop-here.invariant.marks mark);
    }
