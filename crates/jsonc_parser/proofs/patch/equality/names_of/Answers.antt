use Rattle.std.proofs.Common.{◌∙◌, ◌<◌, ◌≤◌, ap, arith, length, map, sym, take}
use Rattle.std.proofs.lemmas.List.{length-map, take_all}
use Rattle.jsonc_parser.proofs.lemmas.patch.Equality.{name_bytes, twice_named}
use Rattle.jsonc_parser.proofs.lemmas.patch.SeenNames.{absent, bytes_of, name_at, one_seen, present, seen_earlier}
use Rattle.jsonc_parser.proofs.patch.equality.names_of.Goals as goal

pub loop-member-init : goal.loop-member-init
loop-member-init g c = ap bytes_of c.new-names.ensures.empty

pub returns-then-not-added-clause-repeated : goal.returns-then-not-added-clause-repeated
returns-then-not-added-clause-repeated g c = λ unique.
    let l : c.loop-member.member-index < length c.args.members.now = c.loop-member-test.true in
    let many : c.loop-member.member-index ≤ length (map name_bytes c.args.members.now) = omega (arith, l, length-map c.args.members.now name_bytes) in
    let there = present c.in-Ok.added _ c.in-Ok.ensures.added c.if-not-added.true in
    let h = seen_earlier (map name_bytes c.args.members.now) c.loop-member.member-index c.loop-member.names.keys c.as_str.result c.loop-member.invariant many there in
    let at = name_at name_bytes c.args.members.now c.loop-member.member-index c.member-item.result l c.member-item.is in
    twice_named c.args.members.now c.loop-member.member-index h.0 h.1 l (h.2 ∙ c.as_str.ensures.value ∙ sym at) unique

pub loop-member-preserved : goal.loop-member-preserved
loop-member-preserved g c =
    let l : c.loop-member.member-index < length c.args.members.now = c.loop-member-test.true in
    let many : c.loop-member.member-index < length (map name_bytes c.args.members.now) = omega (arith, l, length-map c.args.members.now name_bytes) in
    let gone = absent c.in-Ok.added _ c.in-Ok.ensures.added c.if-not-added.false in
    let at = name_at name_bytes c.args.members.now c.loop-member.member-index c.member-item.result l c.member-item.is in
    one_seen (map name_bytes c.args.members.now) c.loop-member.member-index c.loop-member.names.keys c.as_str.result c.loop-member.invariant c.insert.new.self.keys many (at ∙ sym c.as_str.ensures.value) gone c.in-Ok.ensures.keys

pub returns-clause-names : goal.returns-clause-names
returns-clause-names g c = c.loop-member.invariant ∙ take_all c.loop-member.member-index (map name_bytes c.args.members.now) (omega (arith, c.loop-member-test.false, length-map c.args.members.now name_bytes))
