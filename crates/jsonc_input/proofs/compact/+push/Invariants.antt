use Rattle.std.proofs.Common.{false}
use Rattle.jsonc_input.proofs.Compacting.{Leads, items_from, members_from}
use Rattle.jsonc_input.proofs.compact.+push.Given as goal

abbrev pub invariant-push_elements-loop-place : goal.invariant-push_elements-loop-place
invariant-push_elements-loop-place g l = Leads l.initial.text l.text (items_from l.apart l.elements l.place) (items_from false l.elements 0)

abbrev pub invariant-push_properties-loop-place : goal.invariant-push_properties-loop-place
invariant-push_properties-loop-place g l = Leads l.initial.text l.text (members_from l.apart l.properties l.place) (members_from false l.properties 0)
