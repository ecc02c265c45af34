use Rattle.jsonc_run.proofs.lemmas.promise.CommentsInserted.{above_in_text, behind_in_text}
use Rattle.jsonc_run.proofs.promise.laws.comments_come_in_texts.Goals as goal

pub returns-clause-above : goal.returns-clause-above
returns-clause-above c = above_in_text

pub returns-clause-behind : goal.returns-clause-behind
returns-clause-behind c = behind_in_text
