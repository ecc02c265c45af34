use Rattle.std.proofs.Common.{arith, inr}
use Rattle.jsonc_parser.proofs.ChangesOutside.{inside_bounds}
use Rattle.jsonc_parser.proofs.change.start_outside.Goals as goal

pub overflow_sub-result : goal.overflow_sub-result
overflow_sub-result c = (inside_bounds c.args.text.now c.args.place c.utf8.text (c.is_inside_cr_lf.ensures.0 c.if-is_inside_cr_lf.true)).0

pub returns-then-is_inside_cr_lf : goal.returns-then-is_inside_cr_lf
returns-then-is_inside_cr_lf c =
    let i = c.is_inside_cr_lf.ensures.0 c.if-is_inside_cr_lf.true in
    inr (i, omega (arith, (inside_bounds c.args.text.now c.args.place c.utf8.text i).0))
