use Rattle.std.proofs.Common.{length, ap, ◌∙◌, arith}
use Rattle.jsonc_tree.specs.Tree as tree
use Rattle.jsonc_tree.specs.Siblings.{siblings_before}
use Rattle.jsonc_tree.proofs.LinkedRows.{before_node, before_short}
use Rattle.jsonc_tree.specs.Stored.{nodes_of}
use Rattle.jsonc_tree.proofs.AgreeingLinks.{length_shown}
use Rattle.jsonc_tree.proofs.tree.Tree.previous_siblings.Goals as goal

pub invariant_of-result : goal.invariant_of-result
invariant_of-result g c = (c.self.inside.stored, (before_node c.self.inside.nodes.items c.self.inside.stored c.args.node c.previous_of.result c.previous_of.ensures).1)

pub returns-clause-siblings : goal.returns-clause-siblings
returns-clause-siblings g c = (before_node c.self.inside.nodes.items c.self.inside.stored c.args.node c.previous_of.result c.previous_of.ensures).0 ∙ ap (λ (t : tree.Tree). siblings_before t.nodes c.args.node) c.self.view_is

pub returns-clause-countable : goal.returns-clause-countable
returns-clause-countable g c =
    let items = c.self.inside.nodes.items in
    omega (arith, ap length (before_node items c.self.inside.stored c.args.node c.previous_of.result c.previous_of.ensures).0, before_short (nodes_of items) c.self.inside.stored.tree c.args.node, length_shown items, c.self.inside.nodes.ok)
