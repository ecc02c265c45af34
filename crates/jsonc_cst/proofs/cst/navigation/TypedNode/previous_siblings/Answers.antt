use Rattle.jsonc_cst.proofs.Readings.{typed_all_held}
use Rattle.jsonc_cst.proofs.cst.navigation.TypedNode.previous_siblings.Goals as goal

pub returns-clause-in_document : goal.returns-clause-in_document
returns-clause-in_document g c = typed_all_held c.args.doc.now.tree.nodes c.previous_siblings.result c.previous_siblings.ensures.in_tree
