use Rattle.jsonc_sound.proofs.Values.{document_change}
use Rattle.jsonc_edit.proofs.laws.documents_have_changed_values.Goals as goal

pub returns : goal.returns
returns c = λ o old new path n x d at now v changed value. document_change o x v (changed path at) value d
