use Rattle.std.proofs.Common.{◌≡◌, ◌<◌, arith}
use Rattle.std.proofs.lemmas.Grind.{common_steps}
use Rattle.jsonc_changes.proofs.Going.{Gap, goes_on, ends, starts}
use Rattle.jsonc_changes.proofs.changes.format_changes.Goals as goal

pub gaps-init : goal.gaps-init
gaps-init g c = starts _ _ _ c.utf8.old c.utf8.formatted c.new-changes.ensures.items

pub returns-then-common-eq0 : goal.returns-then-common-eq0
returns-then-common-eq0 g c =
    let a = c.blanks_end-end.ensures in
    let b = c.blanks_end-stop.ensures in
    let gap : Gap c.args.old.now c.args.formatted.now c.gaps.from c.gaps.at c.blanks_end-end.result c.blanks_end-stop.result c.new-last.result c.new-written.result =
    record {
      was = record { boundary = a.boundary; order = a.order; many = a.blanks; all = a.all };
      now = record { boundary = b.boundary; order = b.order; many = b.blanks; all = b.all };
      old_start = c.new-last.ensures.start;
      new_start = c.new-written.ensures.start;
    } in
    let none : c.common_len-common.result ≡ 0 = grind (arith, common_steps, c.if-common-eq0.true) in
    ends c.args.old.now c.args.formatted.now c.gaps.from c.gaps.at c.blanks_end-end.result c.blanks_end-stop.result c.common_len-common.result c.new-last.result c.new-written.result
    c.gaps.changes.items c.push_change.new.changes.items c.utf8.old c.utf8.formatted c.gaps.invariant gap c.new-last.ensures.end c.new-written.ensures.end c.common_len-common.ensures none
    c.in_ok-push_change.ensures

pub gaps-preserved : goal.gaps-preserved
gaps-preserved g c =
    let a = c.blanks_end-end.ensures in
    let b = c.blanks_end-stop.ensures in
    let gap : Gap c.args.old.now c.args.formatted.now c.gaps.from c.gaps.at c.blanks_end-end.result c.blanks_end-stop.result c.new-range.result c.new-writes.result =
    record {
      was = record { boundary = a.boundary; order = a.order; many = a.blanks; all = a.all };
      now = record { boundary = b.boundary; order = b.order; many = b.blanks; all = b.all };
      old_start = c.new-range.ensures.start;
      new_start = c.new-writes.ensures.start;
    } in
    let some : 0 < c.common_len-common.result = grind (arith, common_steps, c.if-common-eq0.false) in
    goes_on c.args.old.now c.args.formatted.now c.gaps.from c.gaps.at c.blanks_end-end.result c.blanks_end-stop.result c.common_len-common.result c.new-range.result c.new-writes.result
    c.gaps.changes.items c.push_change-in-gaps.new.changes.items c.utf8.old c.utf8.formatted c.gaps.invariant gap c.new-range.ensures.end c.new-writes.ensures.end c.common_len-common.ensures some
    c.in_ok-push_change-2.ensures
