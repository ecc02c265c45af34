use Rattle.jsonc_text.proofs.Rows.{clef_decodes, low_nothing}
use Rattle.jsonc_text.proofs.laws.worked_strings.Goals as goal

pub returns-clause-pair : goal.returns-clause-pair
returns-clause-pair c = clef_decodes

pub returns-clause-lone : goal.returns-clause-lone
returns-clause-lone c = low_nothing
