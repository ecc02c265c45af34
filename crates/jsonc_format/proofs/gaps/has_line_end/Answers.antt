use Rattle.std.proofs.lemmas.Str.{IsCharBoundary-start}
use Rattle.jsonc_format.proofs.LineEnds.{ends_there}
use Rattle.jsonc_format.proofs.NextEnds.{empty_in_line}
use Rattle.jsonc_format.proofs.gaps.has_line_end.Goals as goal

pub stop_place-requires-clause-boundary : goal.stop_place-requires-clause-boundary
stop_place-requires-clause-boundary c = IsCharBoundary-start c.args.text.now c.utf8.text

pub returns : goal.returns
returns c = let e = c.stop_place.ensures in ends_there c.args.text.now c.stop_place.result c.utf8.text e.passed.boundary e.passed.piece e.stops

pub returns-then-is_empty : goal.returns-then-is_empty
returns-then-is_empty c = empty_in_line c.args.text.now c.is_empty.result c.is_empty.ensures c.if-is_empty.true
