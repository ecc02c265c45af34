use Rattle.jsonc_parser.proofs.lemmas.paths.UniqueValues.{dropped_once}
use Rattle.jsonc_parser.proofs.lemmas.paths.Paths.{drop_what_is_there, dropped_at, dropped_same}
use Rattle.jsonc_parser.proofs.paths.laws.what_stands_can_leave.Goals as goal

pub returns-clause-exactly : goal.returns-clause-exactly
returns-clause-exactly c = λ w names. (λ d. dropped_at d.1, λ a. drop_what_is_there w names a.0 a.1)

pub returns-clause-one_way : goal.returns-clause-one_way
returns-clause-one_way c = λ w names x y d e. dropped_once d e

pub returns-clause-elsewhere : goal.returns-clause-elsewhere
returns-clause-elsewhere c = λ w x names d path u k. dropped_same d path u k
