use Rattle.jsonc_edit.proofs.ChangesUpward.{Shows-row_below}
use Rattle.jsonc_edit.proofs.laws.children_stand_for_the_row_below.Goals as goal

pub returns : goal.returns
returns c = λ ns n tree h. Shows-row_below ns tree n h
