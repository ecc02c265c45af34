use Rattle.std.proofs.Common.{ℕ, List, Option, ◌++◌, ◌≤◌, drop, length}
use Rattle.jsonc_cst.specs.sorting.Pins.{ArePins}
use Rattle.jsonc_cst.proofs.sorting.headers.pins_by.Given as goal

abbrev pub invariant-loop-place : goal.invariant-loop-place
invariant-loop-place g l =
    (l.from ≤ length l.fn.comments)
    × ((more : List (Option ℕ)) → ArePins g.F.Fn l.fn.rule (g.D.DocumentArg.same l.fn.doc) l.fn.nodes l.place (drop l.place l.fn.leads) (drop l.from l.fn.comments) more
    → ArePins g.F.Fn l.fn.rule (g.D.DocumentArg.same l.fn.doc) l.fn.nodes 0 l.fn.leads l.fn.comments (l.pins.items ++ more))
