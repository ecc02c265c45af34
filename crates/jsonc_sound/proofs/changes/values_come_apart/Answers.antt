use Rattle.jsonc_sound.proofs.JoinedRows.{parted_items, parted_members, items_of_joined, members_of_joined}
use Rattle.jsonc_sound.proofs.changes.values_come_apart.Goals as goal

pub returns-clause-items : goal.returns-clause-items
returns-clause-items c = λ o first second us. (parted_items o first second, items_of_joined o first second)

pub returns-clause-members : goal.returns-clause-members
returns-clause-members c = λ o first second ms. (parted_members o first second, members_of_joined o first second)
