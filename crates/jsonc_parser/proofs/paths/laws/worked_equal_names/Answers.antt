use Rattle.std.proofs.Common.{true}
use Rattle.jsonc_text.specs.Plain.{Plain}
use Rattle.jsonc_parser.specs.paths.Settings.{Put, this_becomes, is_there, changes_inside, this_removed, property_dropped, this_one, in_object, itself}
use Rattle.jsonc_parser.specs.paths.Worked.{a, both}
use Rattle.jsonc_parser.proofs.lemmas.paths.UniqueValues.{put_once}
use Rattle.jsonc_parser.proofs.paths.laws.worked_equal_names.Goals as goal

pub returns-clause-first : goal.returns-clause-first
returns-clause-first c = λ u v w how. changes_inside this_becomes is_there

pub returns-clause-not_last : goal.returns-clause-not_last
returns-clause-not_last c = λ how p.
    let q : Put (Plain.boolean true) how (both Plain.null Plain.null) a (both (Plain.boolean true) Plain.null) = changes_inside this_becomes is_there in
    let e = put_once q p in
    cc

pub returns-clause-removed : goal.returns-clause-removed
returns-clause-removed c = λ v w. property_dropped this_removed

pub returns-clause-shows : goal.returns-clause-shows
returns-clause-shows c = λ w. in_object this_one itself
