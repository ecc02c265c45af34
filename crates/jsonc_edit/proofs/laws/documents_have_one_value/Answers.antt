use Rattle.jsonc_edit.proofs.OneValue.{document_once}
use Rattle.jsonc_edit.proofs.laws.documents_have_one_value.Goals as goal

pub returns : goal.returns
returns c = document_once
