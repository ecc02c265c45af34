use Rattle.jsonc_sound.proofs.TriviaValues.{document_kept}
use Rattle.jsonc_sound.proofs.changes.changes_of_trivia_keep_the_value.Goals as goal

pub returns : goal.returns
returns c = λ o t w d was now u k old new. document_kept o was now old new w k d
