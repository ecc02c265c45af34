use Rattle.jsonc_parser.proofs.lemmas.patch.Seen.{all_seen}
use Rattle.jsonc_parser.proofs.patch.laws.names_are_shown_in_one_line.Goals as goal

pub returns : goal.returns
returns c = all_seen
