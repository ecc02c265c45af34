use Rattle.jsonc_parser.proofs.lemmas.paths.UniqueValues.{put_once}
use Rattle.jsonc_parser.proofs.lemmas.paths.Paths.{puts, never_both}
use Rattle.jsonc_parser.proofs.paths.laws.values_are_put.Goals as goal

pub returns-clause-puts : goal.returns-clause-puts
returns-clause-puts c = puts

pub returns-clause-never_both : goal.returns-clause-never_both
returns-clause-never_both c = λ v how w names x p s. never_both p s.0 s.1

pub returns-clause-one_way : goal.returns-clause-one_way
returns-clause-one_way c = λ v how w names x y p q. put_once p q
