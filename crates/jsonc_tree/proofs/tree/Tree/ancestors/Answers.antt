use Rattle.std.proofs.Common.{sym, ◌∙◌, vec_len}
use Rattle.jsonc_tree.specs.Stored.{nodes_of}
use Rattle.jsonc_tree.proofs.AgreeingLinks.{length_shown}
use Rattle.jsonc_tree.proofs.Order.{parent_within}
use Rattle.jsonc_tree.proofs.tree.Tree.ancestors.Goals as goal

pub invariant_of-result : goal.invariant_of-result
invariant_of-result g c =
    (c.self.inside.stored, parent_within (nodes_of c.self.inside.nodes.items) c.self.inside.stored.tree c.args.node (vec_len c.self.inside.nodes) c.parent_in.result c.parent_in.ensures (length_shown c.self.inside.nodes.items ∙ sym c.self.inside.nodes.ok.0))
