use Rattle.jsonc_parser.proofs.lemmas.patch.Texts.{read_back}
use Rattle.jsonc_parser.proofs.patch.laws.pointers_are_read_back.Goals as goal

pub returns : goal.returns
returns c = read_back
