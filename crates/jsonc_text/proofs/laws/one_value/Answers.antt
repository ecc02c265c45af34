use Rattle.jsonc_text.proofs.UniqueValues.{document_unique}
use Rattle.jsonc_text.proofs.laws.one_value.Goals as goal

pub returns : goal.returns
returns c = λ o t v w g h. document_unique o t v w g h
