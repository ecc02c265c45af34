use Rattle.jsonc_cst.proofs.lemmas.typed.Calls as calls
use Rattle.jsonc_cst.proofs.laws.typed_calls_are_calls.Goals as goal

pub returns-clause-kept : goal.returns-clause-kept
returns-clause-kept g c = calls.kept_is_call

pub returns-clause-untouched : goal.returns-clause-untouched
returns-clause-untouched g c = calls.untouched_is_call

pub returns-clause-raw : goal.returns-clause-raw
returns-clause-raw g c = calls.raw_is_call

pub returns-clause-removed : goal.returns-clause-removed
returns-clause-removed g c = calls.removal_is_call

pub returns-clause-alone : goal.returns-clause-alone
returns-clause-alone g c = calls.lone_removal_is_call

pub returns-clause-replaced : goal.returns-clause-replaced
returns-clause-replaced g c = calls.given_is_call

pub returns-clause-property : goal.returns-clause-property
returns-clause-property g c = calls.property_is_call

pub returns-clause-renamed : goal.returns-clause-renamed
returns-clause-renamed g c = calls.renamed_is_call

pub returns-clause-commented : goal.returns-clause-commented
returns-clause-commented g c = calls.comment_is_call

pub returns-clause-cleared : goal.returns-clause-cleared
returns-clause-cleared g c = calls.clearing_is_call

pub returns-clause-root : goal.returns-clause-root
returns-clause-root g c = calls.root_is_call

pub returns-clause-root_created : goal.returns-clause-root_created
returns-clause-root_created g c = calls.root_created

pub returns-clause-root_set : goal.returns-clause-root_set
returns-clause-root_set g c = calls.root_set

pub returns-clause-value : goal.returns-clause-value
returns-clause-value g c = calls.value_is_call

pub returns-clause-held : goal.returns-clause-held
returns-clause-held g c = calls.held_is_call

pub returns-clause-boolean : goal.returns-clause-boolean
returns-clause-boolean g c = calls.boolean_is_call

pub returns-clause-lines : goal.returns-clause-lines
returns-clause-lines g c = calls.lines_are_call

pub returns-clause-element : goal.returns-clause-element
returns-clause-element g c = calls.element_is_call

pub returns-clause-named : goal.returns-clause-named
returns-clause-named g c = calls.named_is_call

pub returns-clause-ensured : goal.returns-clause-ensured
returns-clause-ensured g c = calls.ensured_is_call

pub returns-clause-commas : goal.returns-clause-commas
returns-clause-commas g c = calls.commas_are_call

pub returns-clause-some_commas : goal.returns-clause-some_commas
returns-clause-some_commas g c = calls.some_commas_are_call

pub returns-clause-sorted : goal.returns-clause-sorted
returns-clause-sorted g c = calls.sort_is_call
