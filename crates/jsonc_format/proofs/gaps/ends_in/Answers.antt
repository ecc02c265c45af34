use Rattle.std.proofs.Common.{◌∙◌, ◌+◌, ap, chars, nat_lt, sym}
use Rattle.jsonc_format.specs.Format.{lines}
use Rattle.jsonc_format.proofs.NextEnds.{after_first, first_next, no_ends, one_end_between}
use Rattle.jsonc_format.proofs.gaps.ends_in.Goals as goal

pub stop_place-next-requires-clause-boundary : goal.stop_place-next-requires-clause-boundary
stop_place-next-requires-clause-boundary c = after_first c.args.text.now c.args.from c.args.to c.args.line_end.now c.utf8.text c.requires.span c.requires.known c.if-first-to.true

pub returns-then-to-next : goal.returns-then-to-next
returns-then-to-next c =
    let e = c.stop_place-next.ensures in
    let k = one_end_between c.args.text.now c.args.from c.args.to c.args.line_end.now c.stop_place-next.result c.utf8.text c.requires.span c.requires.known c.if-first-to.true
    (first_next c.args.text.now (c.args.line_end.now + 1) c.stop_place-next.result e.passed.boundary e.passed.piece e.stops) c.if-to-next.true in
    record { ends = k.0; known = k.1 }

pub returns-then-not-ends_between : goal.returns-then-not-ends_between
returns-then-not-ends_between c = record {
  ends = no_ends _ (sym c.if-not-ends_between.true ∙ c.ends_between.ensures.ends);
  known = c.ends_between.ensures.known;
}

pub returns : goal.returns
returns c = record {
  ends = record {
    any = sym c.if-not-ends_between.false ∙ c.ends_between.ensures.ends;
    several = c.has_blank_line.ensures ∙ ap (λ s. nat_lt 1 (lines (chars s))) c.range.ensures.value;
  };
  known = c.ends_between.ensures.known;
}
