use Rattle.jsonc_parser.proofs.LineWalk.{found_in_characters, none_in_characters}
use Rattle.jsonc_parser.proofs.line_index.LineIndex.place_of.Goals as goal

pub returns-clause-found : goal.returns-clause-found
returns-clause-found g c = found_in_characters _ _ _ _ c.place_by.ensures.found

pub returns-clause-none : goal.returns-clause-none
returns-clause-none g c = none_in_characters _ _ _ _ c.place_by.ensures.none
