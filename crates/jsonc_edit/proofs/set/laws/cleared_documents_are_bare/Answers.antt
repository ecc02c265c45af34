use Rattle.jsonc_edit.proofs.lemmas.set.FirstValueSet.{leaves_bare}
use Rattle.jsonc_edit.proofs.set.laws.cleared_documents_are_bare.Goals as goal

pub returns : goal.returns
returns c = leaves_bare
