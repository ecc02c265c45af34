use Rattle.std.proofs.lemmas.Str.{IsCharBoundary-start}
use Rattle.jsonc_parser.proofs.places.place_of_utf16.Goals as goal

pub place_from-requires-clause-boundary : goal.place_from-requires-clause-boundary
place_from-requires-clause-boundary c = IsCharBoundary-start c.args.text.now c.utf8.text
