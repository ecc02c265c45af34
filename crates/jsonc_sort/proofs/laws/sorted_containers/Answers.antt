use Rattle.jsonc_sort.proofs.SortedDocuments.{keeps_outside, sorts_document}
use Rattle.jsonc_sort.proofs.laws.sorted_containers.Goals as goal

pub returns-clause-document : goal.returns-clause-document
returns-clause-document c = sorts_document

pub returns-clause-outside : goal.returns-clause-outside
returns-clause-outside c = λ path order t u s. keeps_outside s
