use Rattle.jsonc_sound.proofs.Values.{document_change}
use Rattle.jsonc_sound.proofs.changes.changed_documents_have_changed_values.Goals as goal

pub returns : goal.returns
returns c = λ o t x d was now path u v h n. document_change o x v h n d
