use Rattle.std.proofs.Common.{◌≡◌, ◌<◌, ℕ, drop, length, take}
use Rattle.std.specs.List.{All}
use Rattle.jsonc_tree.specs.Tree.{children_at}
use Rattle.jsonc_cst.proofs.RepeatedNames.{AreApart}
use Rattle.jsonc_cst.proofs.cst.repeats.are_few_apart.Given as goal

-- the loop has passed so many of the children
abbrev pub invariant-loop-child : goal.invariant-loop-child
invariant-loop-child g l =
    let ns = l.tree.nodes in
    let row = children_at ns l.object in
    (k : ℕ) × (l.child-iterator ≡ drop k row) × AreApart ns (take k row) l.passed.items × All (λ n. n < length ns) l.passed.items
