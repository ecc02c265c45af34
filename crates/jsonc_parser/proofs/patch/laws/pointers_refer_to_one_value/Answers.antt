use Rattle.jsonc_parser.proofs.lemmas.patch.Evaluation.{fails_with_none, refers_to_one}
use Rattle.jsonc_parser.proofs.patch.laws.pointers_refer_to_one_value.Goals as goal

pub returns-clause-one : goal.returns-clause-one
returns-clause-one c = refers_to_one

pub returns-clause-fails : goal.returns-clause-fails
returns-clause-fails c = fails_with_none
