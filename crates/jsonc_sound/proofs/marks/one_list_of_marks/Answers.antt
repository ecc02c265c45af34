use Rattle.jsonc_sound.proofs.OneList.{marks_unique, tokens_marked}
use Rattle.jsonc_sound.proofs.marks.one_list_of_marks.Goals as goal

pub returns-clause-one : goal.returns-clause-one
returns-clause-one c = λ o t ms ns g h. marks_unique g h

pub returns-clause-some : goal.returns-clause-some
returns-clause-some c = λ o t at ts g. tokens_marked g
