use Rattle.jsonc_parser.specs.declared.paths.which.Which.TheVariants.{First}
use Rattle.jsonc_parser.proofs.lemmas.paths.Leading.{drops_by_it, lead_to_what_is_there, puts_by_it}
use Rattle.jsonc_parser.proofs.lemmas.paths.LongestPrefix.{put_by_one, reaches}
use Rattle.jsonc_parser.proofs.paths.laws.one_operation_puts_or_drops.Goals as goal

pub returns-clause-leads : goal.returns-clause-leads
returns-clause-leads c = lead_to_what_is_there

pub returns-clause-puts : goal.returns-clause-puts
returns-clause-puts c = puts_by_it First

pub returns-clause-drops : goal.returns-clause-drops
returns-clause-drops c = drops_by_it

pub returns-clause-reaches : goal.returns-clause-reaches
returns-clause-reaches c = reaches

pub returns-clause-one : goal.returns-clause-one
returns-clause-one c = put_by_one
