use Rattle.jsonc_parser.proofs.LineWalk.{position_in_characters}
use Rattle.jsonc_parser.proofs.line_index.LineIndex.line_and_column.Goals as goal

pub returns-clause-found : goal.returns-clause-found
returns-clause-found g c = position_in_characters _ _ _ c.position_by.ensures.found
