use Rattle.std.proofs.Common.{ℕ, ◌<◌, chars, get_or}
use Rattle.jsonc_layout.specs.nodes.Names.{IsNamed}
use Rattle.jsonc_cst.proofs.cst.repeats.all_lack_name.Given as goal

abbrev pub invariant-loop-node : goal.invariant-loop-node
invariant-loop-node g l = (k : ℕ) → k < l.node-index → IsNamed l.tree.nodes (chars l.name) (get_or l.nodes k 0) → ⊥
