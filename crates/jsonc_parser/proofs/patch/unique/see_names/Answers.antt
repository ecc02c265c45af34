use Rattle.std.proofs.Common.{◌≡◌, ◌∙◌, ◌<◌, ◌≤◌, [], ap, arith, chars, get_or, length, map, string_bytes, sym}
use Rattle.std.proofs.lemmas.List.{length-map}
use Rattle.jsonc_layout.specs.input.Views.{chars_of, members_plain}
use Rattle.jsonc_parser.proofs.lemmas.patch.Equality.{name_bytes}
use Rattle.jsonc_parser.proofs.lemmas.patch.MergeNames.{names_differ, repeated_name, reports_repeated}
use Rattle.jsonc_parser.proofs.lemmas.patch.SeenNames.{absent, bytes_of, name_at, one_distinct, one_seen, present, seen_earlier, unseen}
use Rattle.jsonc_parser.proofs.patch.unique.see_names.Goals as goal

pub loop-member-init : goal.loop-member-init
loop-member-init g c = record { keys = ap bytes_of c.new-seen.ensures.empty; distinct = λ j k b l e. absurd (omega (arith, l)) }

pub returns-then-not-added-clause-repeated : goal.returns-then-not-added-clause-repeated
returns-then-not-added-clause-repeated g c =
    let ps = c.args.members.now in
    let i = c.loop-member.member-index in
    let l : i < length ps = c.loop-member-test.true in
    let many : i ≤ length (map name_bytes ps) = omega (arith, l, length-map ps name_bytes) in
    let there = present c.in-Ok.added _ c.in-Ok.ensures.added c.if-not-added.true in
    let name = c.member-item.result.0 in
    let at : get_or (map name_bytes ps) i [] ≡ string_bytes name = name_at name_bytes ps i c.member-item.result l c.member-item.is in
    let h = seen_earlier (map name_bytes ps) i c.loop-member.seen.keys c.as_str-name.result c.loop-member.invariant.keys many there in
    reports_repeated (members_plain ps) (chars_of name) c.repeated.result (rw (sym c.as_str-name.ensures.value) c.repeated.ensures)
    (repeated_name ps name h.0 i h.1 l (h.2 ∙ c.as_str-name.ensures.value) at)

pub loop-member-preserved : goal.loop-member-preserved
loop-member-preserved g c =
    let ps = c.args.members.now in
    let i = c.loop-member.member-index in
    let l : i < length ps = c.loop-member-test.true in
    let many : i < length (map name_bytes ps) = omega (arith, l, length-map ps name_bytes) in
    let gone = absent c.in-Ok.added _ c.in-Ok.ensures.added c.if-not-added.false in
    let name = c.as_str-name.result.now in
    let at : get_or (map name_bytes ps) i [] ≡ name = name_at name_bytes ps i c.member-item.result l c.member-item.is ∙ sym c.as_str-name.ensures.value in
    let other = unseen (map name_bytes ps) i c.loop-member.seen.keys c.as_str-name.result c.loop-member.invariant.keys (omega (arith, many)) gone in
    record {
      keys = one_seen (map name_bytes ps) i c.loop-member.seen.keys c.as_str-name.result c.loop-member.invariant.keys c.insert.new.self.keys many at gone c.in-Ok.ensures.keys;
      distinct = one_distinct (map name_bytes ps) i name at c.loop-member.invariant.distinct other;
    }

pub returns-clause-differ : goal.returns-clause-differ
returns-clause-differ g c =
    let ps = c.args.members.now in
    names_differ ps (λ j k b l e. c.loop-member.invariant.distinct j k b (omega (arith, l, c.loop-member-test.false)) e)
