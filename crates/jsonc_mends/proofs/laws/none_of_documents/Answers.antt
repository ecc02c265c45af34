use Rattle.jsonc_mends.proofs.Telling.{none_of_document}
use Rattle.jsonc_mends.proofs.laws.none_of_documents.Goals as goal

pub returns : goal.returns
returns g c = λ o s r h. none_of_document o s r h
