use Rattle.std.proofs.Common.{chars}
use Rattle.jsonc_tree.specs.Tree.{children_at}
use Rattle.jsonc_cst.proofs.Readings.{named_held}
use Rattle.jsonc_cst.proofs.cst.node.CstObject.get.Goals as goal

pub returns-in-Ok-Some-clause-in_document : goal.returns-in-Ok-Some-clause-in_document
returns-in-Ok-Some-clause-in_document g c =
    let ns = c.args.doc.now.tree.nodes in
    rw c.in-Ok-Some.field-0-is at (named_held ns (chars c.args.name.now) (children_at ns c.args.self.number) c.in-Ok-Some.field-0 c.in-Ok-Some.ensures.found)
