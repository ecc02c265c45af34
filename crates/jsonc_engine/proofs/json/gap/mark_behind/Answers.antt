use Rattle.jsonc_engine.proofs.Gaps.{blanks_passed, comes_next, more_passed}
use Rattle.jsonc_engine.proofs.json.gap.mark_behind.Goals as goal

pub loop-behind-init : goal.loop-behind-init
loop-behind-init c = let e = c.blanks_end-end.ensures in blanks_passed c.args.text.now c.args.place c.blanks_end-end.result e.boundary e.blanks e.all

pub loop-behind-preserved : goal.loop-behind-preserved
loop-behind-preserved c =
    let e = c.blanks_end-end-in-Some.ensures in
    more_passed c.args.text.now c.args.place c.loop-behind.end c.in-Some.behind c.blanks_end-end-in-Some.result c.loop-behind.invariant c.in-Some.ensures.found.piece e.boundary e.blanks e.all

pub returns : goal.returns
returns c = comes_next c.args.text.now c.args.place c.loop-behind.end c.char_at.result c.loop-behind.invariant c.in_default.ensures.none c.char_at.ensures.none c.char_at.ensures.some
