use Rattle.jsonc_walk.proofs.lemmas.ReadsToEnd.{reads_to_document}
use Rattle.jsonc_walk.proofs.laws.reading_to_the_end.Goals as goal

pub returns : goal.returns
returns c = λ o whole s. reads_to_document o whole
