use Rattle.jsonc_text.proofs.lemmas.string.ByteRuns.{run_stops}
use Rattle.jsonc_text.proofs.string.stops.stop_place.Goals as goal

pub returns-clause-passed : goal.returns-clause-passed
returns-clause-passed c = (run_stops _ _ _ _ _ c.requires.ascii c.utf8.text c.requires.boundary (rw c.as_bytes.ensures.value at c.byte_stop.ensures)).0

pub returns-clause-stops : goal.returns-clause-stops
returns-clause-stops c = (run_stops _ _ _ _ _ c.requires.ascii c.utf8.text c.requires.boundary (rw c.as_bytes.ensures.value at c.byte_stop.ensures)).1
