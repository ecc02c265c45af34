use Rattle.std.proofs.Common.{◌≡◌, ◌<◌, ◌++◌, All, IfSome, length}
use Rattle.jsonc_tree.specs.Order.{upward}
use Rattle.jsonc_tree.proofs.Order.{levels, one_more}
use Rattle.jsonc_layout.specs.lines.Indents.{levels_among}
use Rattle.jsonc_layout.proofs.lines.indents.levels_from.Given as goal

abbrev pub invariant-loop-next : goal.invariant-loop-next
invariant-loop-next g l =
    let ns = l.tree.nodes in
    record {
      in_tree : IfSome l.next (λ m. m < length ns);
      all : All (λ m. m < length ns) l.levels.items;
      same : levels_among ns (upward ns l.fn.start) ≡ l.levels.items ++ levels_among ns (upward ns l.next);
    }

abbrev pub decreases-loop-next : goal.decreases-loop-next
decreases-loop-next g l = one_more l.next (levels (length l.tree.nodes) l.tree.nodes)
