use Rattle.jsonc_walk.proofs.lemmas.Documents.{no_document}
use Rattle.jsonc_walk.proofs.laws.faults_are_of_no_document.Goals as goal

pub returns : goal.returns
returns c = λ o whole s. no_document
