use Rattle.std.proofs.Common.{◌≡◌, ◌∙◌, ◌+◌, ◌-◌, ◌<◌, suc, ap, sym, arith, length, take, chars}
use Rattle.std.specs.Prelude.{option_map}
use Rattle.std.proofs.lemmas.List.{take_all}
use Rattle.jsonc_view.specs.Lists.{pairs_of}
use Rattle.jsonc_view.specs.Views.{last_named}
use Rattle.jsonc_view.proofs.Reading.{count_members, last_before, last_here, member_there}
use Rattle.jsonc_view.proofs.view.object.place_of.Goals as goal

pub loop-behind-init : goal.loop-behind-init
loop-behind-init g c = λ ms h.
    ap (last_named (chars c.args.name.now)) (take_all (length c.args.members.now - 0) (pairs_of ms) (omega (arith, count_members c.args.rows.now c.args.members.now ms h)))

pub is_named-requires : goal.is_named-requires
is_named-requires g c =
    let place = length c.args.members.now - 1 - c.loop-behind.behind in
    let there = member_there c.args.rows.now c.args.members.now c.requires.0 place _ c.requires.1 (omega (arith, c.loop-behind-test.true)) in
    (there.name, there.named)

pub loop-behind-preserved : goal.loop-behind-preserved
loop-behind-preserved g c = λ ms h.
    let name = chars c.args.name.now in
    let members = c.args.members.now in
    let place = length c.args.members.now - 1 - c.loop-behind.behind in
    let there = member_there c.args.rows.now members ms place _ h (omega (arith, c.loop-behind-test.true)) in
    let here : length members - (c.loop-behind.behind + 1) ≡ place = omega (arith, c.loop-behind-test.true) in
    let behind : suc place ≡ length members - c.loop-behind.behind = omega (arith, c.loop-behind-test.true) in
    ap (λ k. last_named name (take k (pairs_of ms))) here
    ∙ last_before name (pairs_of ms) place (there.name, there.value) there.at (sym (c.is_named.ensures there.name there.named) ∙ c.if-is_named.false)
    ∙ ap (λ k. last_named name (take k (pairs_of ms))) behind ∙ c.loop-behind.invariant ms h

pub returns-then-is_named-clause-last : goal.returns-then-is_named-clause-last
returns-then-is_named-clause-last g c = λ ms h.
    let name = chars c.args.name.now in
    let members = c.args.members.now in
    let place = length c.args.members.now - 1 - c.loop-behind.behind in
    let there = member_there c.args.rows.now members ms place _ h (omega (arith, c.loop-behind-test.true)) in
    let behind : suc place ≡ length members - c.loop-behind.behind = omega (arith, c.loop-behind-test.true) in
    ap (option_map (λ p. p.1)) there.at
    ∙ last_here name (pairs_of ms) place (there.name, there.value) there.at (sym (c.is_named.ensures there.name there.named) ∙ c.if-is_named.true)
    ∙ ap (λ k. last_named name (take k (pairs_of ms))) behind ∙ c.loop-behind.invariant ms h

pub returns-clause-last : goal.returns-clause-last
returns-clause-last g c = λ ms h.
    let none : 0 ≡ length c.args.members.now - c.loop-behind.behind = omega (arith, c.loop-behind-test.false) in
    ap (λ k. last_named (chars c.args.name.now) (take k (pairs_of ms))) none ∙ c.loop-behind.invariant ms h
