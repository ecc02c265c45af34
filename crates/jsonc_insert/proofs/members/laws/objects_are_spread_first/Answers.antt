use Rattle.jsonc_insert.proofs.lemmas.elements.Objects.{fits_as_told}
use Rattle.jsonc_insert.proofs.lemmas.members.SpreadObjects.{spreads_first, wants_memory_alone}
use Rattle.jsonc_insert.proofs.members.laws.objects_are_spread_first.Goals as goal

pub returns-clause-spread : goal.returns-clause-spread
returns-clause-spread c = spreads_first

pub returns-clause-memory : goal.returns-clause-memory
returns-clause-memory c = wants_memory_alone

pub returns-clause-layout : goal.returns-clause-layout
returns-clause-layout c = fits_as_told
