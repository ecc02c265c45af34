use Rattle.std.proofs.Common.{◌≤◌, ◌^◌, IfNone, ap, arith, length, subst}
use Rattle.jsonc_tree.specs.OrderedTree.{ordered_tree, printed}
use Rattle.jsonc_tree.specs.Tree.{IsOver}
use Rattle.jsonc_lint.proofs.linting.found_at.Goals as goal

pub unreachable-requires : goal.unreachable-requires
unreachable-requires g c =
    let ns = c.args.tree.now.nodes in
    let many : 2 ^ 64 ≤ length (printed (ordered_tree ns 0)) =
    subst (λ o. IfNone o (IsOver ns 0 c.args.node → 2 ^ 64 ≤ length (printed (ordered_tree ns 0)))) c.in_default.is c.requires.range.none c.requires.attached in
    absurd (omega (arith, many, ap length c.requires.text.printed, c.requires.text.small))
