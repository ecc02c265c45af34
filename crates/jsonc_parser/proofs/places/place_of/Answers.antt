use Rattle.std.proofs.lemmas.Str.{IsCharBoundary-start}
use Rattle.jsonc_parser.proofs.LineWalk.{found_in_characters, none_in_characters}
use Rattle.jsonc_parser.proofs.places.place_of.Goals as goal

pub place_from-requires-clause-boundary : goal.place_from-requires-clause-boundary
place_from-requires-clause-boundary c = IsCharBoundary-start c.args.text.now c.utf8.text

pub returns-clause-found : goal.returns-clause-found
returns-clause-found c = found_in_characters _ _ _ _ c.place_from.ensures.found

pub returns-clause-none : goal.returns-clause-none
returns-clause-none c = none_in_characters _ _ _ _ c.place_from.ensures.none
