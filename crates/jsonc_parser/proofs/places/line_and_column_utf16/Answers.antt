use Rattle.std.proofs.Common.{arith}
use Rattle.std.proofs.lemmas.Str.{IsCharBoundary-start}
use Rattle.jsonc_parser.proofs.places.line_and_column_utf16.Goals as goal

pub walk_to-requires-clause-spans : goal.walk_to-requires-clause-spans
walk_to-requires-clause-spans c = record { from = IsCharBoundary-start c.args.text.now c.utf8.text; to = c.requires; order = omega arith }
