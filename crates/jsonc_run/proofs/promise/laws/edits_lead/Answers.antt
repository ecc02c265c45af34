use Rattle.jsonc_run.proofs.lemmas.promise.Leads.{edits_lead}
use Rattle.jsonc_run.proofs.promise.laws.edits_lead.Goals as goal

pub returns : goal.returns
returns c = λ old new. edits_lead old new
