use Rattle.std.proofs.Common.{◌-◌, arith, subst}
use Rattle.std.proofs.lemmas.Bool.{false≢true}
use Rattle.std.proofs.lemmas.List.{get_or_default}
use Rattle.jsonc_mends.specs.Places.{Begun}
use Rattle.jsonc_mends.specs.declared.places.Side.TheVariants.{Mended}
use Rattle.jsonc_mends.proofs.Apart.{in_order, decides_written, none_written}
use Rattle.jsonc_mends.proofs.places.lies_in.Goals as goal

pub returns-then-count-eq0 : goal.returns-then-count-eq0
returns-then-count-eq0 c =
    let list = c.args.list.now in
    λ n k h. (
      (λ e. absurd (false≢true e)),
      λ w. absurd (none_written list c.args.range.start c.args.range.end
          (subst (Begun Mended list c.args.range.start) c.if-count-eq0.true (c.count_to-count.ensures.begun (in_order Mended 0 0 list n k h))) w),
    )

pub returns : goal.returns
returns c =
    let list = c.args.list.now in
    let count = c.count_to-count.result in
    λ n k h. decides_written list n k c.args.range.start c.args.range.end count _ h (omega (arith, c.if-range.false)) (c.count_to-count.ensures.begun (in_order Mended 0 0 list n k h)) c.if-count-eq0.false
    (get_or_default list (count - 1) _ _ (omega (arith, c.count_to-count.ensures.within, c.if-count-eq0.false)))
