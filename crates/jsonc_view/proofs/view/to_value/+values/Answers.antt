use Rattle.std.proofs.Common.{◌≡◌, ◌+◌, ◌*◌, ◌∙◌, ap, arith, chars, length, sym}
use Rattle.jsonc_text.specs.Plain.{array, collapse, object}
use Rattle.jsonc_value.proofs.lemmas.to_value.Plains.{array_plain, object_plain}
use Rattle.jsonc_value.specs.to_value.Views.{items_plain, members_plain}
use Rattle.jsonc_view.specs.Views.{plain}
use Rattle.jsonc_view.proofs.Reading.{count_items, count_members, item_there, member_there}
use Rattle.jsonc_view.proofs.Values.{element_made, elements_made, item_is_smaller, member_is_smaller, properties_made, property_made, size, texts_made}
use Rattle.jsonc_view.proofs.view.to_value.+values.Goals as goal

pub array_from-value_at-value-requires : goal.array_from-value_at-value-requires
array_from-value_at-value-requires g t c =
    let a = c.args.array.now in
    let there = item_there a.rows.now a.elements.now a.shown.0 c.loop-row.row-index _ a.shown.1 (omega (arith, c.loop-row-test.true)) in
    (there.value, there.shown)

pub array_from-value_from-requires : goal.array_from-value_from-requires
array_from-value_from-requires g t c κs within =
    let a = c.args.array.now in
    let there = item_there a.rows.now a.elements.now a.shown.0 c.loop-row.row-index _ a.shown.1 (omega (arith, c.loop-row-test.true)) in
    let same = c.value_at-value.ensures there.value there.shown in
    (omega (arith, c.decreases, item_is_smaller a.shown.0 c.loop-row.row-index there.value there.at, ap size same), within)

pub array_from-loop-row-preserved : goal.array_from-loop-row-preserved
array_from-loop-row-preserved g t c =
    let a = c.args.array.now in
    let there = item_there a.rows.now a.elements.now a.shown.0 c.loop-row.row-index _ a.shown.1 (omega (arith, c.loop-row-test.true)) in
    element_made c.loop-row.values.items _ c.in_ok-made.made a.shown.0 c.loop-row.row-index there.value c.loop-row.invariant there.at
    (c.in_ok-made.ensures ∙ ap collapse (c.value_at-value.ensures there.value there.shown)) c.in_ok-push.ensures.items

pub array_from-returns : goal.array_from-returns
array_from-returns g t c =
    let a = c.args.array.now in
    array_plain c.new.result ∙ ap (λ vs. array (items_plain vs)) c.new.ensures
    ∙ ap array (elements_made c.loop-row.values.items a.shown.0 c.loop-row.row-index c.loop-row.invariant (omega (arith, c.loop-row-test.false, count_items a.rows.now a.elements.now a.shown.0 a.shown.1)))

pub object_from-name_at-name-requires : goal.object_from-name_at-name-requires
object_from-name_at-name-requires g t c =
    let o = c.args.object.now in
    let there = member_there o.rows.now o.members.now o.shown.0 c.loop-member.member-index _ o.shown.1 (omega (arith, c.loop-member-test.true)) in
    (there.name, there.named)

pub object_from-value_at-value-requires : goal.object_from-value_at-value-requires
object_from-value_at-value-requires g t c =
    let o = c.args.object.now in
    let there = member_there o.rows.now o.members.now o.shown.0 c.loop-member.member-index _ o.shown.1 (omega (arith, c.loop-member-test.true)) in
    (there.value, there.shown)

pub object_from-value_from-requires : goal.object_from-value_from-requires
object_from-value_from-requires g t c κs within =
    let o = c.args.object.now in
    let there = member_there o.rows.now o.members.now o.shown.0 c.loop-member.member-index _ o.shown.1 (omega (arith, c.loop-member-test.true)) in
    let same = c.value_at-value.ensures there.value there.shown in
    (omega (arith, c.decreases, member_is_smaller o.shown.0 c.loop-member.member-index (there.name, there.value) there.at, ap size same), within)

pub object_from-loop-member-preserved : goal.object_from-loop-member-preserved
object_from-loop-member-preserved g t c =
    let o = c.args.object.now in
    let there = member_there o.rows.now o.members.now o.shown.0 c.loop-member.member-index _ o.shown.1 (omega (arith, c.loop-member-test.true)) in
    record {
      texts = texts_made c.loop-member.properties.items _ _ c.in_ok-made.made c.loop-member.invariant.texts c.name_at-name.utf8 c.in_ok-push.ensures.items;
      made = property_made c.loop-member.properties.items _ _ c.in_ok-made.made o.shown.0 c.loop-member.member-index there.name there.value c.loop-member.invariant.made there.at
          (c.name_at-name.ensures there.name there.named) (c.in_ok-made.ensures ∙ ap collapse (c.value_at-value.ensures there.value there.shown)) c.in_ok-push.ensures.items;
    }

pub object_from-returns : goal.object_from-returns
object_from-returns g t c =
    let o = c.args.object.now in
    object_plain c.new.result ∙ ap (λ ps. object (members_plain ps)) (c.new.ensures ∙ c.in_ok-map.ensures)
    ∙ ap object (properties_made c.loop-member.properties.items o.shown.0 c.loop-member.member-index c.loop-member.invariant.texts c.loop-member.invariant.made
    (omega (arith, c.loop-member-test.false, count_members o.rows.now o.members.now o.shown.0 o.shown.1)))

pub value_from-object_from-requires : goal.value_from-object_from-requires
value_from-object_from-requires g t c κs within = (omega (arith, c.decreases, ap (λ v. size (plain v)) c.in-Object.is), within)

pub value_from-array_from-requires : goal.value_from-array_from-requires
value_from-array_from-requires g t c κs within = (omega (arith, c.decreases, ap (λ v. size (plain v)) c.in-Array.is), within)
