use Rattle.jsonc_format.proofs.Documents.{one_as_asked}
use Rattle.jsonc_format.proofs.laws.one_text_as_asked.Goals as goal

pub returns : goal.returns
returns c = λ o wish t r s a b. one_as_asked o wish t r s a b
