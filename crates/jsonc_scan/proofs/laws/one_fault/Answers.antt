use Rattle.jsonc_scan.proofs.OneFault.{one_fault}
use Rattle.jsonc_scan.proofs.RefusedLexemes.{no_lexeme_told}
use Rattle.jsonc_scan.proofs.laws.one_fault.Goals as goal

pub returns-clause-one : goal.returns-clause-one
returns-clause-one c = one_fault

pub returns-clause-none : goal.returns-clause-none
returns-clause-none c = no_lexeme_told
