use Rattle.jsonc_format.proofs.Documents.{document_kept}
use Rattle.jsonc_format.proofs.laws.documents_stay.Goals as goal

pub returns : goal.returns
returns c = λ o y t f v p d h. document_kept o y t f v p d h
