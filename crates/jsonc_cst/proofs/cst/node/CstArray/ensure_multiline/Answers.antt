use Rattle.std.proofs.Common.{ap, ◌∙◌}
use Rattle.jsonc_layout.specs.lines.Kinds.{is_array_or_object}
use Rattle.jsonc_cst.specs.Nodes.{number_of, array_node}
use Rattle.jsonc_cst.proofs.lemmas.typed.PropertyValues.{held_array}
use Rattle.jsonc_cst.proofs.lemmas.typed.Multiline.{put_on_lines}
use Rattle.jsonc_cst.proofs.cst.node.CstArray.ensure_multiline.Goals as goal

pub returns : goal.returns
returns g c =
    let same = c.number-array.ensures ∙ ap number_of c.node.ensures in
    put_on_lines c.args.doc.now _ (array_node c.args.self) (ap is_array_or_object (held_array c.args.doc.now.tree.nodes c.args.self c.requires)) c.ensure_multiline.result
    (rw same at c.ensure_multiline.ensures.made) (rw same at c.ensure_multiline.ensures.error) c.ensure_multiline.ensures.kept c.ensure_multiline.ensures.document
