use Rattle.jsonc_edit.proofs.lemmas.commas.DetachedContainers.{leaves_others, leaves_others_in_part}
use Rattle.jsonc_edit.proofs.lemmas.commas.Documents.{keeps_document, keeps_in_part}
use Rattle.jsonc_edit.proofs.commas.laws.documents_say_the_same.Goals as goal

pub returns-clause-whole : goal.returns-clause-whole
returns-clause-whole c mode o old k new is = keeps_document mode o old k is new

pub returns-clause-part : goal.returns-clause-part
returns-clause-part c mode o old k new is = keeps_in_part mode o old k is new

pub returns-clause-others : goal.returns-clause-others
returns-clause-others c = leaves_others

pub returns-clause-apart : goal.returns-clause-apart
returns-clause-apart c = leaves_others_in_part
