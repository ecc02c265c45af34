use Rattle.std.proofs.Common.{◌≡◌, ◌+◌, ◌<◌, [], ◌∷◌, length, IfSome}
use Rattle.std.specs.List.{find}
use Rattle.std.specs.Option.{option_or}
use Rattle.jsonc_tree.specs.Order.{rest_at}
use Rattle.jsonc_layout.specs.lines.Breadth.{is_sought, levels}
use Rattle.jsonc_layout.specs.lines.Walk.{depth_at, node_of, HasCome}
use Rattle.jsonc_layout.proofs.lemmas.lines.Depths.{layers}
use Rattle.jsonc_layout.proofs.lines.breadth.first_above.Given as goal

abbrev pub invariant-loop-at : goal.invariant-loop-at
invariant-loop-at g l =
    let ns = l.tree.nodes in
    let p = is_sought ns l.sought in
    record {
      found : IfSome l.found (λ m. m < length ns);
      come : IfSome l.at (HasCome ns l.top);
      depth : IfSome l.at (λ r. r.depth < l.bound);
      same : find p (levels l.fn.depth ns (l.top ∷ [])) ≡ option_or (find p (layers (depth_at ns) (depth_at ns l.top + l.bound) (rest_at ns l.top (node_of l.at)))) l.found;
    }

abbrev pub decreases-loop-at : goal.decreases-loop-at
decreases-loop-at g l = length (rest_at l.tree.nodes l.top (node_of l.at))
