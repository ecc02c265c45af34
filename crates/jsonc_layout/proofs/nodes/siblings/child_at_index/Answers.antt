use Rattle.std.proofs.Common.{◌∙◌}
use Rattle.jsonc_tree.specs.Tree.{children_at}
use Rattle.jsonc_layout.proofs.lemmas.nodes.Rows.{dropped_first, first_given}
use Rattle.jsonc_layout.proofs.nodes.siblings.child_at_index.Goals as goal

pub returns-clause-child : goal.returns-clause-child
returns-clause-child g c = first_given c.children_from.result c.next.new.self c.next.result c.next.ensures.steps ∙ dropped_first c.args.index (children_at c.args.tree.now.nodes c.args.node) c.children_from.result c.children_from.ensures.children
