use Rattle.jsonc_engine.proofs.Rewriting.{document_after}
use Rattle.jsonc_engine.proofs.laws.documents_are_written.Goals as goal

pub returns : goal.returns
returns c = λ t w v a m. document_after a m
