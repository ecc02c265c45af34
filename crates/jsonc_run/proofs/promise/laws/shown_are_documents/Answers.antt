use Rattle.jsonc_run.proofs.lemmas.promise.Leads.{shown_are_documents}
use Rattle.jsonc_run.proofs.promise.laws.shown_are_documents.Goals as goal

pub returns : goal.returns
returns c = λ t. shown_are_documents t
