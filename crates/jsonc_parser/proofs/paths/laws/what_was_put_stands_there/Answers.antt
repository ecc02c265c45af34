use Rattle.jsonc_parser.proofs.lemmas.paths.Paths.{put_again, put_at, put_same}
use Rattle.jsonc_parser.proofs.paths.laws.what_was_put_stands_there.Goals as goal

pub returns-clause-there : goal.returns-clause-there
returns-clause-there c = λ v how w x names p. put_at p

pub returns-clause-again : goal.returns-clause-again
returns-clause-again c = λ v how w names a. put_again how a

pub returns-clause-elsewhere : goal.returns-clause-elsewhere
returns-clause-elsewhere c = λ v how w x names p path u d. put_same p path u d
