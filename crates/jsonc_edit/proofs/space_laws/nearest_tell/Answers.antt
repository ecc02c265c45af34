use Rattle.jsonc_edit.proofs.NearestLeaves.{meet_bare, none_due}
use Rattle.jsonc_edit.proofs.WholeRows.{row_whole, stretch_whole}
use Rattle.jsonc_edit.proofs.space_laws.nearest_tell.Goals as goal

pub returns-clause-meet : goal.returns-clause-meet
returns-clause-meet c = λ o ns kind last mid xs ys stretch rest s g r h. meet_bare ns o s (stretch_whole o g) r (row_whole o h)

pub returns-clause-none : goal.returns-clause-none
returns-clause-none c = λ o ns commas kind last mid from to front back s g r h. none_due ns o commas from to s g r h
