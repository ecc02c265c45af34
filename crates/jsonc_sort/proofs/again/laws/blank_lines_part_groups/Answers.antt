use Rattle.jsonc_sort.proofs.lemmas.again.Parted.{parted_stay}
use Rattle.jsonc_sort.proofs.again.laws.blank_lines_part_groups.Goals as goal

pub returns : goal.returns
returns g c = parted_stay
