use Rattle.jsonc_text.proofs.Rows.{slashes}
use Rattle.jsonc_text.proofs.RowsRefused.{commas_document, follower_document}
use Rattle.jsonc_text.proofs.laws.worked_refusals.Goals as goal

pub returns-clause-comment : goal.returns-clause-comment
returns-clause-comment c = slashes

pub returns-clause-commas : goal.returns-clause-commas
returns-clause-commas c = commas_document

pub returns-clause-follower : goal.returns-clause-follower
returns-clause-follower c = follower_document
