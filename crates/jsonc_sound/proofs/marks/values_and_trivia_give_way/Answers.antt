use Rattle.jsonc_sound.proofs.ReplacedStretches.{values_marks, trivias_marks, trivia_has_comments, last_is_comment}
use Rattle.jsonc_sound.proofs.marks.values_and_trivia_give_way.Goals as goal

pub returns-clause-value : goal.returns-clause-value
returns-clause-value c = values_marks

pub returns-clause-trivia : goal.returns-clause-trivia
returns-clause-trivia c = trivias_marks

pub returns-clause-comments : goal.returns-clause-comments
returns-clause-comments c = trivia_has_comments

pub returns-clause-last : goal.returns-clause-last
returns-clause-last c = last_is_comment
