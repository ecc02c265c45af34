use Rattle.jsonc_sound.proofs.LeavesAround.{document_differs}
use Rattle.jsonc_sound.proofs.changes.changes_keep_the_leaves_around.Goals as goal

pub returns : goal.returns
returns c = λ t was now path u h. document_differs h
