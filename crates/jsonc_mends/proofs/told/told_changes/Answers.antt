use Rattle.std.proofs.Common.{arith}
use Rattle.std.proofs.lemmas.List.{get_or_default, take_all}
use Rattle.jsonc_mends.proofs.Telling.{none_so_far, one_more, all_told, told_first, not_none}
use Rattle.jsonc_mends.proofs.told.told_changes.Goals as goal

pub loop-change-init : goal.loop-change-init
loop-change-init g c = none_so_far c.args.text.now c.args.first c.new-list.result.items c.args.changes.now c.new-list.ensures.items

pub loop-change-preserved : goal.loop-change-preserved
loop-change-preserved g c =
    let list = c.loop-change.list in
    one_more c.args.text.now c.args.first c.in-Some.told list.items c.push.new.self.items c.args.changes.now c.mend_of.result _ c.loop-change.change-index (omega (arith, c.loop-change-test.true))
    (get_or_default c.args.changes.now c.loop-change.change-index _ _ (omega (arith, c.loop-change-test.true)))
    (told_first c.told_number.result c.in-Some.told c.args.first _ _ c.in-Some.is c.told_number.ensures.first (omega (arith, c.len.ensures, list.ok.0)))
    c.in-Some.ensures.told c.mend_of.ensures c.in_ok-push.ensures.items c.loop-change.invariant

pub returns : goal.returns
returns g c =
    let list = c.loop-change.list in
    all_told c.args.text.now c.args.first list.items c.args.changes.now c.loop-change.change-index (not_none _ _ c.is_empty.result c.is_empty.ensures c.if-is_empty.false list.ok.0)
    (take_all c.loop-change.change-index c.args.changes.now (omega (arith, c.loop-change-test.false))) c.loop-change.invariant
