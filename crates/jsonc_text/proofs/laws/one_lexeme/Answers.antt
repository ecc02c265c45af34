use Rattle.jsonc_text.proofs.UniqueLexemes.{scanned_unique}
use Rattle.jsonc_text.proofs.laws.one_lexeme.Goals as goal

pub returns : goal.returns
returns c = λ o t w x r s a b. scanned_unique o w x t r s a b
