use Rattle.std.proofs.Common.{◌+◌, ◌-◌, ◌*◌, length}
use Rattle.jsonc_walk.specs.Context.{text_in, token_start}
use Rattle.jsonc_walk.proofs.lemmas.Walks.{ElementsGoOn, PropertiesGoOn}
use Rattle.jsonc_walk.proofs.walk.+parse.Given as goal

abbrev pub decreases-parse_value : goal.decreases-parse_value
decreases-parse_value g l = 4 * (513 - l.count) + 2

abbrev pub decreases-parse_element : goal.decreases-parse_element
decreases-parse_element g l = 4 * (513 - l.count) + 3

abbrev pub decreases-parse_array : goal.decreases-parse_array
decreases-parse_array g l = 4 * (513 - l.count) + 1

abbrev pub decreases-parse_object : goal.decreases-parse_object
decreases-parse_object g l = 4 * (513 - l.count) + 1

abbrev pub decreases-parse_property : goal.decreases-parse_property
decreases-parse_property g l = 4 * (514 - l.count)

abbrev pub invariant-parse_array-loop-next : goal.invariant-parse_array-loop-next
invariant-parse_array-loop-next g l = ElementsGoOn (g.R.Receiver.source l.to) l.fn.context l.context g.R.Receiver.whole l.next l.count (g.R.Receiver.holds_elements l.fn.to l.to l.elements l.start) (g.R.Receiver.reached l.to)

abbrev pub decreases-parse_array-loop-next : goal.decreases-parse_array-loop-next
decreases-parse_array-loop-next g l = length (text_in l.context) - token_start l.context

abbrev pub invariant-parse_object-loop-next : goal.invariant-parse_object-loop-next
invariant-parse_object-loop-next g l = PropertiesGoOn (g.R.Receiver.source l.to) l.fn.context l.context g.R.Receiver.whole l.next l.count (g.R.Receiver.holds_properties l.fn.to l.to l.properties l.start) (g.R.Receiver.reached l.to)

abbrev pub decreases-parse_object-loop-next : goal.decreases-parse_object-loop-next
decreases-parse_object-loop-next g l = length (text_in l.context) - token_start l.context
