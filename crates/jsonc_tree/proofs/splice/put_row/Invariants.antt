use Rattle.std.proofs.Common.{◌≡◌, ◌+◌, ℕ, take, vec_len}
use Rattle.jsonc_tree.specs.Changes.{Splices}
use Rattle.jsonc_tree.specs.Stored.{nodes_of, IsStored}
use Rattle.jsonc_tree.specs.Siblings.{IsGap}
use Rattle.jsonc_tree.proofs.splice.put_row.Given as goal

abbrev pub invariant-loop-i : goal.invariant-loop-i
invariant-loop-i g l = record {
  splices : (k : ℕ) → IsGap (nodes_of l.fn.nodes.items) l.c k l.fn.before l.behind → Splices (nodes_of l.fn.nodes.items) (nodes_of l.nodes.items) l.c k k (take l.i l.new);
  gap : (k : ℕ) → IsGap (nodes_of l.fn.nodes.items) l.c k l.fn.before l.behind → IsGap (nodes_of l.nodes.items) l.c (k + l.i) l.last l.behind;
  stored : IsStored l.nodes.items;
  len : vec_len l.nodes ≡ vec_len l.fn.nodes;
}
