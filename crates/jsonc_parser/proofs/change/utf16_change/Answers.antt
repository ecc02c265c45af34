use Rattle.std.proofs.Common.{arith}
use Rattle.std.proofs.lemmas.Str.{IsCharBoundary-start}
use Rattle.jsonc_parser.proofs.change.utf16_change.Goals as goal

pub walk_to-start-requires-clause-spans : goal.walk_to-start-requires-clause-spans
walk_to-start-requires-clause-spans c = record { from = IsCharBoundary-start c.args.old.now c.utf8.old; to = c.change_outside_cr_lf.ensures.span.from; order = omega arith }
