use Rattle.jsonc_edit.proofs.lemmas.multiline.SameDocument.{keeps_document, keeps_outside, keeps_inside}
use Rattle.jsonc_edit.proofs.multiline.laws.spread_documents_say_the_same.Goals as goal

pub returns-clause-document : goal.returns-clause-document
returns-clause-document c = keeps_document

pub returns-clause-outside : goal.returns-clause-outside
returns-clause-outside c = λ path t u s. keeps_outside s

pub returns-clause-inside : goal.returns-clause-inside
returns-clause-inside c = λ path t u s. keeps_inside s
