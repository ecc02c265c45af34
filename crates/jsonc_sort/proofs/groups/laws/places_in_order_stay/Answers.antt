use Rattle.jsonc_sort.proofs.lemmas.groups.SettledOrder.{stays_as_named}
use Rattle.jsonc_sort.proofs.groups.laws.places_in_order_stay.Goals as goal

pub returns : goal.returns
returns c = stays_as_named
