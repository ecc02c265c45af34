use Rattle.jsonc_sound.proofs.TriviaLeaves.{document_differs}
use Rattle.jsonc_sound.proofs.changes.changes_of_trivia_keep_the_leaves_around.Goals as goal

pub returns : goal.returns
returns c = λ t was now u k old new. document_differs was now old new k
