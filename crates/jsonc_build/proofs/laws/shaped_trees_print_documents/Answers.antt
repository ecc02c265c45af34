use Rattle.jsonc_sound.proofs.LooseLines.{document_loosens}
use Rattle.jsonc_sound.proofs.ShapeValues.{document_printed}
use Rattle.jsonc_build.proofs.laws.shaped_trees_print_documents.Goals as goal

pub returns-clause-loosely : goal.returns-clause-loosely
returns-clause-loosely c = λ o t s l. document_printed o t s l

pub returns-clause-directly : goal.returns-clause-directly
returns-clause-directly c = λ o t s l. document_printed o t s (document_loosens l)

pub returns-clause-strict : goal.returns-clause-strict
returns-clause-strict c = λ t l. document_loosens l
