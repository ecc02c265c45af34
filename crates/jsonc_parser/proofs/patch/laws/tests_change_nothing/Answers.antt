use Rattle.jsonc_parser.proofs.lemmas.patch.OwnEdits.{tests_stay}
use Rattle.jsonc_parser.proofs.patch.laws.tests_change_nothing.Goals as goal

pub returns : goal.returns
returns g c = λ d e operations tests patched. tests_stay operations tests patched.steps
