use Rattle.jsonc_edit.proofs.Removal.{takes_trivia}
use Rattle.jsonc_edit.proofs.TakingOut.{loses_comment, numbered, taken_sound, taken_value}
use Rattle.jsonc_edit.proofs.laws.documents_without_a_comment.Goals as goal

pub returns : goal.returns
returns c = record {
  trivia = takes_trivia;
  sound = λ o old new n r s. taken_sound old new n r o s;
  value = λ o old new n w r d. taken_value old new n r o w d;
  kept = λ old new n r. (loses_comment old new n r, numbered old new n r);
}
