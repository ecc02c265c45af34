use Rattle.jsonc_parser.proofs.lemmas.patch.MergePatchCases.{cases_hold}
use Rattle.jsonc_parser.proofs.patch.laws.worked_merge_patches.Goals as goal

pub returns : goal.returns
returns c = cases_hold
