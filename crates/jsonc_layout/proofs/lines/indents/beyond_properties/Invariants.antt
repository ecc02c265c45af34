use Rattle.std.proofs.Common.{◌≡◌, ◌<◌, IfSome, length}
use Rattle.jsonc_tree.specs.Order.{upward}
use Rattle.jsonc_tree.specs.Tree.{parent_at}
use Rattle.jsonc_tree.proofs.Order.{levels, one_more}
use Rattle.jsonc_layout.specs.lines.Indents.{beyond_properties}
use Rattle.jsonc_layout.proofs.lines.indents.beyond_properties.Given as goal

abbrev pub invariant-loop-next : goal.invariant-loop-next
invariant-loop-next g l =
    let ns = l.tree.nodes in
    record {
      in_tree : IfSome l.next (λ m. m < length ns);
      same : beyond_properties ns (upward ns (parent_at ns l.node)) ≡ beyond_properties ns (upward ns l.next);
    }

abbrev pub decreases-loop-next : goal.decreases-loop-next
decreases-loop-next g l = one_more l.next (levels (length l.tree.nodes) l.tree.nodes)
