use Rattle.std.proofs.Common.{◌≡◌, ◌<◌, ◌++◌, length, map}
use Rattle.std.specs.List.{All}
use Rattle.jsonc_tree.specs.Tree.{children_at}
use Rattle.jsonc_cst.specs.Nodes.{typed_at}
use Rattle.jsonc_cst.proofs.cst.access.children_of.Given as goal

-- those that are left are nodes, and with those so far they are all
abbrev pub invariant-loop-child : goal.invariant-loop-child
invariant-loop-child g l =
    record {
      so_far : l.children.items ++ map (typed_at l.tree.nodes) l.child-iterator ≡ map (typed_at l.tree.nodes) (children_at l.tree.nodes l.number);
      in_tree : All (λ m. m < length l.tree.nodes) l.child-iterator;
    }
