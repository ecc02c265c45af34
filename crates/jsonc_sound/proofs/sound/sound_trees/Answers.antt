use Rattle.jsonc_sound.proofs.LooseLines.{document_loosens}
use Rattle.jsonc_sound.proofs.NodesAlone.{document_alone, document_leaves, document_shaped}
use Rattle.jsonc_sound.proofs.ShapeValues.{document_printed}
use Rattle.jsonc_sound.proofs.SoundTrees.{kept_by_stretches, kept_where_none_meet, kept_by_values}
use Rattle.jsonc_sound.proofs.LooseComments.{kept_without_comment}
use Rattle.jsonc_sound.proofs.Booleans.{shaped_with_boolean}
use Rattle.jsonc_sound.proofs.LooseChanges.{document_loose}
use Rattle.jsonc_sound.proofs.sound.sound_trees.Goals as goal

pub returns-clause-apart : goal.returns-clause-apart
returns-clause-apart c = λ o t. (λ s. (document_alone o s.shaped, document_leaves o s.shaped, s.lines), λ h. record { shaped = document_shaped o h.0 h.1; lines = h.2 })

pub returns-clause-parsed : goal.returns-clause-parsed
returns-clause-parsed c = λ o t s l. record { shaped = s; lines = document_loosens l }

pub returns-clause-prints : goal.returns-clause-prints
returns-clause-prints c = λ o t s. document_printed o t s.shaped s.lines

pub returns-clause-stretches : goal.returns-clause-stretches
returns-clause-stretches c = λ o t. kept_by_stretches o t

pub returns-clause-none : goal.returns-clause-none
returns-clause-none c = λ o t. kept_where_none_meet o t

pub returns-clause-values : goal.returns-clause-values
returns-clause-values c = λ o t. kept_by_values o t

pub returns-clause-comment : goal.returns-clause-comment
returns-clause-comment c = λ o t. kept_without_comment o t

pub returns-clause-boolean : goal.returns-clause-boolean
returns-clause-boolean c = λ o t s was now path u k d f. record { shaped = shaped_with_boolean o t s.shaped was now path u k d f; lines = document_loose tt k s.lines }
