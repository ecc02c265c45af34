use Rattle.jsonc_text.proofs.NumberFrames.{number_whole, number_follows, number_there}
use Rattle.jsonc_text.proofs.laws.numbers_end_at_their_followers.Goals as goal

pub returns : goal.returns
returns c = λ o s r. (λ n. (number_whole s r n, number_follows s r n), λ h. number_there s r h.0 h.1)
