use Rattle.std.proofs.Common.{chars, rules, subst, sym}
use Rattle.jsonc_parser.specs.LineStarts.{IsMark}
use Rattle.jsonc_parser.proofs.LineWalk.{place_boundary}
use Rattle.jsonc_parser.proofs.line_index.LineIndex.position_by.Goals as goal

pub walk_to-requires-clause-spans : goal.walk_to-requires-clause-spans
walk_to-requires-clause-spans g c = record {
  from = (
      let mark : IsMark (chars c.self.inside.text.now) c.mark_before-mark.result = subst (λ t. IsMark (chars t) c.mark_before-mark.result) (sym c.self.view_is) c.mark_before-mark.ensures.mark in
      place_boundary _ c.self.inside.text.now c.mark_before-mark.result.place _ _ c.self.invariant.0 mark.characters
      );
  to = search rules;
  order = c.mark_before-mark.ensures.before;
}
