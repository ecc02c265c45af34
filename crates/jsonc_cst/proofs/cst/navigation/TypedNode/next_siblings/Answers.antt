use Rattle.jsonc_cst.proofs.Readings.{typed_all_held}
use Rattle.jsonc_cst.proofs.cst.navigation.TypedNode.next_siblings.Goals as goal

pub returns-clause-in_document : goal.returns-clause-in_document
returns-clause-in_document g c = typed_all_held c.args.doc.now.tree.nodes c.next_siblings.result c.next_siblings.ensures.in_tree
