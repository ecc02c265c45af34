use Rattle.std.proofs.Common.{inl, sym, subst, arith, chars}
use Rattle.jsonc_text.specs.Gaps.{LineComment}
use Rattle.jsonc_edit.proofs.lemmas.commenting.Whole.{line_there, not_whole, nothing_left}
use Rattle.jsonc_sound.proofs.ShapeTexts.{begins_line}
use Rattle.jsonc_edit.proofs.commenting.whole.line_kind.Goals as goal

pub returns-then-stop_place-text-clause-none : goal.returns-then-stop_place-text-clause-none
returns-then-stop_place-text-clause-none c =
    not_whole c.args.text.now c.utf8.text c.stop_place.result c.stop_place.ensures.passed.boundary (omega (arith, c.if-stop_place-text.true))
    (inl (line_there c.args.text.now c.stop_place.result c.requires.front c.stop_place.ensures.passed c.stop_place.ensures.stops))

pub returns-clause-some : goal.returns-clause-some
returns-clause-some c =
    subst (LineComment (chars c.args.text.now)) (nothing_left c.args.text.now c.stop_place.result (omega (arith, c.if-stop_place-text.false)))
    (line_there c.args.text.now c.stop_place.result c.requires.front c.stop_place.ensures.passed c.stop_place.ensures.stops)

pub returns-clause-line : goal.returns-clause-line
returns-clause-line c = sym (begins_line c.args.text.now c.utf8.text c.requires.front)
