use Rattle.jsonc_parser.specs.declared.paths.which.Which.TheVariants.{First}
use Rattle.jsonc_parser.proofs.lemmas.paths.Index.{counted_before}
use Rattle.jsonc_parser.proofs.lemmas.paths.NodesAtNames.{begins_there, leads_on_there, stops_there}
use Rattle.jsonc_parser.proofs.paths.laws.names_lead_over_nodes.Goals as goal

pub returns-clause-begins : goal.returns-clause-begins
returns-clause-begins c = begins_there First

pub returns-clause-stops : goal.returns-clause-stops
returns-clause-stops c = stops_there First

pub returns-clause-on : goal.returns-clause-on
returns-clause-on c = leads_on_there First

pub returns-clause-numbers : goal.returns-clause-numbers
returns-clause-numbers c = λ d ns path k i r tree shown at is e. counted_before d.options ns tree shown.sound path k at is i r e
