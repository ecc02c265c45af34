use Rattle.std.proofs.Common.{ap, chars, ◌∙◌}
use Rattle.std.proofs.lemmas.Str.{scalars-chars}
use Rattle.jsonc_edit.specs.set.Names.{IsRenamed}
use Rattle.jsonc_cst.specs.Nodes.{number_of}
use Rattle.jsonc_cst.proofs.lemmas.typed.HandlesKept.{as_typed}
use Rattle.jsonc_cst.proofs.lemmas.typed.Renamed.{name_there, refused, renamed}
use Rattle.jsonc_cst.proofs.cst.node.CstObjectProp.rename.Goals as goal

pub node_at-requires : goal.node_at-requires
node_at-requires g c = name_there c.args.doc.now.tree.nodes c.rename_property.new.tree.nodes c.number-number.result c.in-Ok.new (chars c.args.name.now) c.in-Ok.ensures.renamed

pub returns-in-Ok : goal.returns-in-Ok
returns-in-Ok g c =
    let old = c.args.doc.now.tree.nodes in
    let new = c.rename_property.new.tree.nodes in
    let p = c.args.self.number in
    let name = chars c.args.name.now in
    let same = c.number-number.ensures ∙ ap number_of c.node.ensures in
    let given = rw same at c.in-Ok.ensures.renamed in
    renamed c.args.doc.now _ c.args.self c.requires name (scalars-chars c.args.name.now c.utf8.name) c.node_at.result (as_typed (IsRenamed old new p name) new c.in-Ok.new c.node_at.result c.node_at.ensures.node given)
    (rw same at c.in-Ok.ensures.named) c.node_at.ensures.in_document

pub returns-in-Err : goal.returns-in-Err
returns-in-Err g c =
    let same = c.number-number.ensures ∙ ap number_of c.node.ensures in
    refused c.args.doc.now _ c.args.self c.requires (chars c.args.name.now) c.in-Err.error (rw same at c.in-Err.ensures.error) c.in-Err.ensures.untouched
