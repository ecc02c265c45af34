use Rattle.jsonc_tree.specs.Order.{upward}
use Rattle.jsonc_tree.specs.Tree.{parent_at}
use Rattle.jsonc_cst.proofs.Readings.{root_held}
use Rattle.jsonc_cst.proofs.cst.navigation.TypedNode.root_node.Goals as goal

pub returns-clause-in_document : goal.returns-clause-in_document
returns-clause-in_document g c =
    let ns = c.args.doc.now.tree.nodes in
    root_held ns c.args.doc.now.tree.tree (upward ns (parent_at ns c.number.result)) c.in-Some.number c.in-Some.ensures.root
