use Rattle.jsonc_sound.proofs.Comments.{sound_without_comment, sound_with_space_for_comment}
use Rattle.jsonc_sound.proofs.Trivia.{nodes_kept, sound_with_trivia}
use Rattle.jsonc_sound.proofs.sound.documents_stay_sound_with_trivia.Goals as goal

pub returns-clause-nodes : goal.returns-clause-nodes
returns-clause-nodes c = λ o t h was now u k old allowed. nodes_kept o was now old allowed h k

pub returns-clause-sound : goal.returns-clause-sound
returns-clause-sound c = λ o t. sound_with_trivia o t

pub returns-clause-without : goal.returns-clause-without
returns-clause-without c = λ o t. sound_without_comment o t

pub returns-clause-space : goal.returns-clause-space
returns-clause-space c = λ o t. sound_with_space_for_comment o t
