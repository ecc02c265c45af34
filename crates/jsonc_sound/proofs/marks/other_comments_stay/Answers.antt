use Rattle.jsonc_sound.proofs.ReplacedStretches.{other_comments, others_alone}
use Rattle.jsonc_sound.proofs.marks.other_comments_stay.Goals as goal

pub returns-clause-kept : goal.returns-clause-kept
returns-clause-kept c = other_comments

pub returns-clause-alone : goal.returns-clause-alone
returns-clause-alone c = others_alone
