use Rattle.jsonc_format.proofs.NextEnds.{first_next, none_between, one_between}
use Rattle.jsonc_format.proofs.gaps.ends_between.Goals as goal

pub stop_place-requires-clause-boundary : goal.stop_place-requires-clause-boundary
stop_place-requires-clause-boundary c = c.requires.span.to

pub returns-then-to-line_end : goal.returns-then-to-line_end
returns-then-to-line_end c =
    let k = none_between c.args.text.now c.args.from c.args.to c.args.line_end.now c.utf8.text c.requires.span c.requires.known c.if-to-line_end.true in
    record { ends = k.0; known = k.1 }

pub returns : goal.returns
returns c =
    let e = c.stop_place.ensures in record {
      ends = one_between c.args.text.now c.args.from c.args.to c.args.line_end.now c.utf8.text c.requires.span c.requires.known c.if-to-line_end.false;
      known = first_next c.args.text.now c.args.to c.stop_place.result e.passed.boundary e.passed.piece e.stops;
    }
