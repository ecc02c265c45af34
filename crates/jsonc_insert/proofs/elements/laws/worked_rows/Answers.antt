use Rattle.jsonc_insert.proofs.lemmas.elements.Worked.{comes_behind, comes_first, comes_on_a_line}
use Rattle.jsonc_insert.proofs.elements.laws.worked_rows.Goals as goal

pub returns-clause-behind : goal.returns-clause-behind
returns-clause-behind c = comes_behind

pub returns-clause-first : goal.returns-clause-first
returns-clause-first c = comes_first

pub returns-clause-line : goal.returns-clause-line
returns-clause-line c = comes_on_a_line
