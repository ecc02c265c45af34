use Rattle.std.proofs.Common.{length, ap, reverse, ◌∙◌, arith}
use Rattle.jsonc_tree.specs.Tree as tree
use Rattle.jsonc_tree.specs.Tree.{children_at}
use Rattle.jsonc_tree.proofs.LinkedRows.{back_last}
use Rattle.std.proofs.lemmas.List.{length-reverse}
use Rattle.jsonc_tree.specs.Stored.{nodes_of}
use Rattle.jsonc_tree.proofs.AgreeingLinks.{length_shown, row_short}
use Rattle.jsonc_tree.proofs.tree.Tree.children_reversed.Goals as goal

pub invariant_of-result : goal.invariant_of-result
invariant_of-result g c = (c.self.inside.stored, (back_last c.self.inside.nodes.items c.self.inside.stored c.args.node c.last_of.result c.last_of.ensures).1)

pub returns-clause-children : goal.returns-clause-children
returns-clause-children g c = (back_last c.self.inside.nodes.items c.self.inside.stored c.args.node c.last_of.result c.last_of.ensures).0 ∙ ap (λ (t : tree.Tree). reverse (children_at t.nodes c.args.node)) c.self.view_is

pub returns-clause-countable : goal.returns-clause-countable
returns-clause-countable g c =
    let items = c.self.inside.nodes.items in
    omega (arith, ap length (back_last items c.self.inside.stored c.args.node c.last_of.result c.last_of.ensures).0, length-reverse (children_at (nodes_of items) c.args.node), row_short (nodes_of items) c.self.inside.stored.tree c.args.node, length_shown items, c.self.inside.nodes.ok)
