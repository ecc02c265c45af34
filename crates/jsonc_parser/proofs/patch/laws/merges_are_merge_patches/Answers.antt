use Rattle.jsonc_parser.proofs.lemmas.patch.MergePatchLaw.{merges_document, merges_equal}
use Rattle.jsonc_parser.proofs.lemmas.patch.MergePatchOnce.{merges_once}
use Rattle.jsonc_parser.proofs.lemmas.patch.MergePatchTotal.{merges_all}
use Rattle.jsonc_parser.proofs.patch.laws.merges_are_merge_patches.Goals as goal

pub returns-clause-exact : goal.returns-clause-exact
returns-clause-exact c = merges_document

pub returns-clause-equal : goal.returns-clause-equal
returns-clause-equal c = merges_equal

pub returns-clause-one : goal.returns-clause-one
returns-clause-one c = merges_once

pub returns-clause-some : goal.returns-clause-some
returns-clause-some c = merges_all
