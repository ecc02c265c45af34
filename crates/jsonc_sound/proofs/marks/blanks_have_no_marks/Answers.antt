use Rattle.jsonc_sound.proofs.ReplacedStretches.{one_mark_leaves, blanks_keep_marks, space_keeps_marks}
use Rattle.jsonc_sound.proofs.marks.blanks_have_no_marks.Goals as goal

pub returns-clause-comment : goal.returns-clause-comment
returns-clause-comment c = one_mark_leaves

pub returns-clause-kept : goal.returns-clause-kept
returns-clause-kept c = blanks_keep_marks

pub returns-clause-space : goal.returns-clause-space
returns-clause-space c = space_keeps_marks
