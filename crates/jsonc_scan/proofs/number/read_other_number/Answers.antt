use Rattle.jsonc_scan.proofs.Reading.{number_read}
use Rattle.jsonc_scan.proofs.number.read_other_number.Goals as goal

pub returns-clause-found : goal.returns-clause-found
returns-clause-found c = number_read _ _ _ _ _ c.utf8.text c.requires c.range.ensures.value c.in_ok-end.ensures.found
