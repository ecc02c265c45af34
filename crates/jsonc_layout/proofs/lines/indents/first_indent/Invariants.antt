use Rattle.std.proofs.Common.{◌≡◌, ◌++◌, ℕ, List, reverse}
use Rattle.jsonc_tree.specs.Tree.{children_at}
use Rattle.jsonc_layout.specs.nodes.Siblings.{AreThere}
use Rattle.jsonc_layout.specs.lines.Indents.{first_indent}
use Rattle.jsonc_layout.proofs.lemmas.lines.FirstIndents.{NoneBefore}
use Rattle.jsonc_layout.proofs.lines.indents.first_indent.Given as goal

abbrev pub invariant-loop-child : goal.invariant-loop-child
invariant-loop-child g l =
    let ns = l.tree.nodes in
    record {
      in_tree : AreThere ns l.child-iterator;
      passed : (before : List ℕ) × (children_at ns l.node ≡ reverse before ++ l.child-iterator) × NoneBefore ns before;
      same : first_indent ns (children_at ns l.node) ≡ first_indent ns l.child-iterator;
    }
