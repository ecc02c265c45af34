use Rattle.jsonc_view.proofs.Collapsed.{last_is_collapsed}
use Rattle.jsonc_view.proofs.laws.names_as_in_values.Goals as goal

pub returns : goal.returns
returns c = last_is_collapsed
