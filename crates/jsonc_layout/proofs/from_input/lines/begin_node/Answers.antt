use Rattle.std.proofs.Common.{sym, subst}
use Rattle.jsonc_tree.specs.Stored.{content_of}
use Rattle.jsonc_tree.specs.OrderedTree.{none}
use Rattle.jsonc_tree.proofs.Builder.{Builds-adds, Builds-pushes}
use Rattle.jsonc_layout.specs.from_input.Extending.{BuildsNode}
use Rattle.jsonc_layout.specs.from_input.Laid.{leaf}
use Rattle.jsonc_layout.proofs.from_input.lines.begin_node.Goals as goal

pub returns-clause-built : goal.returns-clause-built
returns-clause-built g c =
    let old = c.args.tree.now.nodes in
    let added : BuildsNode old c.add.new.self.nodes c.in_ok-node.node (leaf (content_of c.args.kind)) = subst (λ n. BuildsNode old c.add.new.self.nodes n (leaf (content_of c.args.kind))) (sym c.in_ok-node.ensures.number) (Builds-adds old c.add.new.self.nodes (content_of c.args.kind) c.add.new.self.tree c.in_ok-node.ensures.added) in
    Builds-pushes old c.add.new.self.nodes c.push_child.new.self.nodes c.in_ok-node.node (content_of c.args.kind) (content_of c.args.first) none added c.in_ok-push_child.ensures.pushes c.push_child.new.self.tree
