use Rattle.std.proofs.Common.{◌≡◌, ◌∙◌, ◌<◌, ◌≤◌, [], ap, arith, chars, get_or, length, map, sym}
use Rattle.std.proofs.lemmas.List.{length-map}
use Rattle.jsonc_parser.proofs.lemmas.patch.PatchValues.{names_differ, prop_name, repeated_name, reports_repeated}
use Rattle.jsonc_parser.proofs.lemmas.patch.SeenNames.{absent, bytes_of, name_at, one_distinct, one_seen, one_text, present, seen_earlier, unseen}
use Rattle.jsonc_parser.specs.patch.PatchReading.{said}
use Rattle.jsonc_parser.proofs.patch.values.see_names.Goals as goal

pub loop-property-init : goal.loop-property-init
loop-property-init g c = record { keys = ap bytes_of c.new-seen.ensures.empty; texts = λ j l. absurd (omega (arith, l)); distinct = λ j k b l e. absurd (omega (arith, l)) }

pub returns-then-not-added-clause-repeated : goal.returns-then-not-added-clause-repeated
returns-then-not-added-clause-repeated g c =
    let ps = c.args.properties.now in
    let i = c.loop-property.property-index in
    let l : i < length ps = c.loop-property-test.true in
    let many : i ≤ length (map prop_name ps) = omega (arith, l, length-map ps prop_name) in
    let there = present c.in-Ok.added _ c.in-Ok.ensures.added c.if-not-added.true in
    let name = c.as_str-name.result.now in
    let at : get_or (map prop_name ps) i [] ≡ name = name_at prop_name ps i c.property-item.result l c.property-item.is ∙ sym c.as_str-name.ensures in
    let h = seen_earlier (map prop_name ps) i c.loop-property.seen.keys c.as_str-name.result c.loop-property.invariant.keys many there in
    reports_repeated (said ps) (chars name) c.repeated.result c.repeated.ensures
    (repeated_name ps name h.0 i h.1 l c.as_str-name.utf8 (one_text (map prop_name ps) i name at c.loop-property.invariant.texts c.as_str-name.utf8) h.2 at)

pub loop-property-preserved : goal.loop-property-preserved
loop-property-preserved g c =
    let ps = c.args.properties.now in
    let i = c.loop-property.property-index in
    let l : i < length ps = c.loop-property-test.true in
    let many : i < length (map prop_name ps) = omega (arith, l, length-map ps prop_name) in
    let gone = absent c.in-Ok.added _ c.in-Ok.ensures.added c.if-not-added.false in
    let name = c.as_str-name.result.now in
    let at : get_or (map prop_name ps) i [] ≡ name = name_at prop_name ps i c.property-item.result l c.property-item.is ∙ sym c.as_str-name.ensures in
    let other = unseen (map prop_name ps) i c.loop-property.seen.keys c.as_str-name.result c.loop-property.invariant.keys (omega (arith, many)) gone in
    record {
      keys = one_seen (map prop_name ps) i c.loop-property.seen.keys c.as_str-name.result c.loop-property.invariant.keys c.insert.new.self.keys many at gone c.in-Ok.ensures.keys;
      texts = one_text (map prop_name ps) i name at c.loop-property.invariant.texts c.as_str-name.utf8;
      distinct = one_distinct (map prop_name ps) i name at c.loop-property.invariant.distinct other;
    }

pub returns-clause-differ : goal.returns-clause-differ
returns-clause-differ g c =
    let ps = c.args.properties.now in
    let h = c.loop-property.invariant in
    names_differ ps (λ j l. h.texts j (omega (arith, l, c.loop-property-test.false))) (λ j k b l e. h.distinct j k b (omega (arith, l, c.loop-property-test.false)) e)
