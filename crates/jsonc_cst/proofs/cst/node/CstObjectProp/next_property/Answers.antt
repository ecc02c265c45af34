use Rattle.jsonc_layout.specs.nodes.Siblings.{siblings_after}
use Rattle.jsonc_cst.proofs.Readings.{first_property_held}
use Rattle.jsonc_cst.proofs.cst.node.CstObjectProp.next_property.Goals as goal

pub returns-clause-in_document : goal.returns-clause-in_document
returns-clause-in_document g c =
    let ns = c.args.doc.now.tree.nodes in
    first_property_held ns (siblings_after ns c.args.self.number) c.in-Some.number c.in-Some.ensures
