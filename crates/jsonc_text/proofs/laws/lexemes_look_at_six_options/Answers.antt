use Rattle.jsonc_text.proofs.SameOptions.{scanned_same}
use Rattle.jsonc_text.proofs.laws.lexemes_look_at_six_options.Goals as goal

pub returns : goal.returns
returns c = λ o p a w t r x. scanned_same a w t r x
