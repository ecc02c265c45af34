use Rattle.jsonc_walk.proofs.lemmas.ReadLexemes.{ends_lexemes}
use Rattle.jsonc_walk.proofs.laws.reading_ends_lexemes.Goals as goal

pub returns : goal.returns
returns c = λ o whole s q d t h. ends_lexemes h
