use Rattle.jsonc_text.proofs.LexemesAlone.{scanned_alone, scanned_before, some_text}
use Rattle.jsonc_text.proofs.laws.lexemes_stand_alone.Goals as goal

pub returns-clause-some : goal.returns-clause-some
returns-clause-some c = some_text

pub returns-clause-alone : goal.returns-clause-alone
returns-clause-alone c = λ o w s r. (scanned_alone o w s r, λ h. scanned_before o w s r h.0 h.1)
