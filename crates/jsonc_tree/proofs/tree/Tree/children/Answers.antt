use Rattle.std.proofs.Common.{length, ap, ◌∙◌, arith}
use Rattle.jsonc_tree.specs.Tree as tree
use Rattle.jsonc_tree.specs.Tree.{children_at}
use Rattle.jsonc_tree.proofs.LinkSteps.{chain_first}
use Rattle.jsonc_tree.specs.Stored.{nodes_of}
use Rattle.jsonc_tree.proofs.AgreeingLinks.{length_shown, row_short}
use Rattle.jsonc_tree.proofs.tree.Tree.children.Goals as goal

pub invariant_of-result : goal.invariant_of-result
invariant_of-result g c = (c.self.inside.stored, (chain_first c.self.inside.nodes.items c.self.inside.stored c.args.node c.first_of.result c.first_of.ensures).1)

pub returns-clause-children : goal.returns-clause-children
returns-clause-children g c = (chain_first c.self.inside.nodes.items c.self.inside.stored c.args.node c.first_of.result c.first_of.ensures).0 ∙ ap (λ (t : tree.Tree). children_at t.nodes c.args.node) c.self.view_is

pub returns-clause-countable : goal.returns-clause-countable
returns-clause-countable g c =
    let items = c.self.inside.nodes.items in
    omega (arith, ap length (chain_first items c.self.inside.stored c.args.node c.first_of.result c.first_of.ensures).0, row_short (nodes_of items) c.self.inside.stored.tree c.args.node, length_shown items, c.self.inside.nodes.ok)
