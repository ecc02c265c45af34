use Rattle.std.proofs.Common.{◌≡◌, ◌+◌, ◌*◌, map, take}
use Rattle.jsonc_text.specs.Plain.{collapse}
use Rattle.jsonc_value.specs.to_value.Made.{AreTexts}
use Rattle.jsonc_value.specs.to_value.Views as values
use Rattle.jsonc_view.specs.Lists.{list_of, pairs_of}
use Rattle.jsonc_view.specs.Views.{plain}
use Rattle.jsonc_view.proofs.Values.{collapsed, items_size, members_size, named, size}
use Rattle.jsonc_view.proofs.view.to_value.+values.Given as goal

-- a container is larger than what is in it
abbrev pub decreases-array_from : goal.decreases-array_from
decreases-array_from g l = 2 * items_size l.array.now.shown.0 + 1

abbrev pub decreases-object_from : goal.decreases-object_from
decreases-object_from g l = 2 * members_size l.object.now.shown.0 + 1

abbrev pub decreases-value_from : goal.decreases-value_from
decreases-value_from g l = 2 * size (plain l.value.now)

-- the values of the rows that were passed are made
abbrev pub invariant-array_from-loop-row : goal.invariant-array_from-loop-row
invariant-array_from-loop-row g l = map values.plain l.values.items ≡ map collapse (take l.row-index (list_of l.array.shown.0))

abbrev pub invariant-object_from-loop-member : goal.invariant-object_from-loop-member
invariant-object_from-loop-member g l = record {
  texts : AreTexts l.properties.items;
  made : map named l.properties.items ≡ map collapsed (take l.member-index (pairs_of l.object.shown.0));
}
