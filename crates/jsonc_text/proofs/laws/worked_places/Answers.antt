use Rattle.jsonc_text.proofs.RowsPlaces.{wide_column, after_cr}
use Rattle.jsonc_text.proofs.laws.worked_places.Goals as goal

pub returns-clause-characters : goal.returns-clause-characters
returns-clause-characters c = wide_column

pub returns-clause-line : goal.returns-clause-line
returns-clause-line c = after_cr
