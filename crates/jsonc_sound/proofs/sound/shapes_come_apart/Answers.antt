use Rattle.jsonc_sound.proofs.LooseLines.{document_loosens}
use Rattle.jsonc_sound.proofs.ShapeValues.{document_printed}
use Rattle.jsonc_sound.proofs.NodesAlone.{document_alone, document_leaves, document_shaped}
use Rattle.jsonc_sound.proofs.sound.shapes_come_apart.Goals as goal

pub returns-clause-apart : goal.returns-clause-apart
returns-clause-apart c = λ o t. (λ h. (document_alone o h, document_leaves o h), λ h. document_shaped o h.0 h.1)

pub returns-clause-prints : goal.returns-clause-prints
returns-clause-prints c = λ o t n e l. document_printed o t (document_shaped o n e) (document_loosens l)
