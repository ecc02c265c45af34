use Rattle.std.proofs.Common.{◌-◌, arith}
use Rattle.std.proofs.lemmas.List.{get_or_default}
use Rattle.jsonc_mends.proofs.Apart.{in_order, goes_before, goes_behind}
use Rattle.jsonc_mends.proofs.places.place_in.Goals as goal

pub returns-then-count-eq0 : goal.returns-then-count-eq0
returns-then-count-eq0 c =
    let list = c.args.list.now in
    λ n h to. goes_before c.args.side list c.args.place c.count_to-count.result c.if-count-eq0.true (c.count_to-count.ensures.begun (in_order c.args.side 0 0 list n c.args.limit h))

pub returns : goal.returns
returns c =
    let list = c.args.list.now in
    let count = c.count_to-count.result in
    λ n h to. goes_behind c.args.side list n c.args.limit c.args.place count c.place_after.result _ h to (c.count_to-count.ensures.begun (in_order c.args.side 0 0 list n c.args.limit h)) c.if-count-eq0.false
    (get_or_default list (count - 1) _ _ (omega (arith, c.count_to-count.ensures.within, c.if-count-eq0.false))) c.place_after.ensures.within c.place_after.ensures.behind
