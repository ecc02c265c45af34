use Rattle.std.proofs.Common.{◌≡◌, ◌+◌, ◌*◌, map, take}
use denote.Param.Weighed.{most}
use Rattle.std.specs.Map.{values_of}
use Rattle.jsonc_value.specs.Contents.{content, named_contents}
use Rattle.jsonc_value.specs.declared.value.JsonValue.{size-JsonValue}
use Rattle.jsonc_value.specs.declared.value.JsonObject.{size-JsonObject}
use Rattle.jsonc_value.specs.declared.value.JsonArray.{size-JsonArray}
use Rattle.jsonc_value.proofs.value.+copy.Given as goal

abbrev pub decreases-JsonArray::try_clone : goal.decreases-JsonArray::try_clone
decreases-JsonArray::try_clone g l = 2 * size-JsonArray g.row.A.Denot l.self.now

abbrev pub decreases-JsonObject::try_clone : goal.decreases-JsonObject::try_clone
decreases-JsonObject::try_clone g l = 2 * size-JsonObject g.row.A.Denot l.self.now

abbrev pub decreases-JsonValue::try_clone : goal.decreases-JsonValue::try_clone
decreases-JsonValue::try_clone g l = 2 * size-JsonValue g.row.A.Denot l.self.now

abbrev pub decreases-copies::copy_all : goal.decreases-copies::copy_all
decreases-copies::copy_all g l = 2 * most (λ x. size-JsonValue g.row.A.Denot x) l.values.now + 1

abbrev pub decreases-copies::copy_pairs : goal.decreases-copies::copy_pairs
decreases-copies::copy_pairs g l = 2 * most (λ x. size-JsonValue g.row.A.Denot x) (values_of l.pairs.now) + 1

abbrev pub invariant-copies::copy_all-loop-value : goal.invariant-copies::copy_all-loop-value
invariant-copies::copy_all-loop-value g l = map content l.copies.items ≡ map content (take l.value-index l.values)

abbrev pub invariant-copies::copy_pairs-loop-name : goal.invariant-copies::copy_pairs-loop-name
invariant-copies::copy_pairs-loop-name g l = named_contents l.copies.items ≡ named_contents (take l.name-index l.pairs)
