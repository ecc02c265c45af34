use Rattle.jsonc_sound.proofs.Spaces.{space_serves, stretch_ends, sound_where_none_meet}
use Rattle.jsonc_sound.proofs.LeafByLeaf.{sound_value_where_none_meet}
use Rattle.jsonc_sound.proofs.Spaced.{sound_with_spaces}
use Rattle.jsonc_sound.proofs.sound.literals_meet_across_spaces.Goals as goal

pub returns-clause-space : goal.returns-clause-space
returns-clause-space c = λ o ls n. space_serves o ls n

pub returns-clause-stretch : goal.returns-clause-stretch
returns-clause-stretch c = λ o kind stretch rest last mid other n m s g h e. stretch_ends o n m s g h e

pub returns-clause-sound : goal.returns-clause-sound
returns-clause-sound c = sound_where_none_meet

pub returns-clause-value : goal.returns-clause-value
returns-clause-value c = sound_value_where_none_meet

pub returns-clause-spaced : goal.returns-clause-spaced
returns-clause-spaced c = λ o t. sound_with_spaces o t
