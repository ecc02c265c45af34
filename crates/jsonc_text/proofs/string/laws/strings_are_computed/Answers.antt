use Rattle.jsonc_text.proofs.lemmas.string.Values.{literal_is}
use Rattle.jsonc_text.proofs.string.laws.strings_are_computed.Goals as goal

pub returns : goal.returns
returns c = literal_is
