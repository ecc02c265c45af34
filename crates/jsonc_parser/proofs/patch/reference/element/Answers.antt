use Rattle.std.proofs.Common.{◌∙◌, ap, arith, length, slice_get}
use Rattle.jsonc_layout.specs.nodes.Siblings.{elements_at}
use Rattle.jsonc_cst.specs.Document.{nodes_of}
use Rattle.jsonc_parser.proofs.lemmas.patch.Indexes.{element_beyond, element_told}
use Rattle.jsonc_parser.proofs.patch.reference.element.Goals as goal

pub returns-in_default-clause-element : goal.returns-in_default-clause-element
returns-in_default-clause-element g c = λ i q index is.
    let beyond = c.in_default.ensures.none i index in
    let count = c.len.ensures.len ∙ ap length c.tree-tree.ensures in
    element_beyond (nodes_of c.args.doc.now) c.args.doc.now.tree.tree c.args.node i q (omega (arith, beyond, count)) is

pub returns-clause-element : goal.returns-clause-element
returns-clause-element g c =
    element_told (nodes_of c.args.doc.now) c.args.node c.in-Some.index _ c.element_at.result (c.element_at.ensures.element ∙ ap (λ ns. slice_get (elements_at ns c.args.node) c.in-Some.index) c.tree-tree.ensures) c.in-Some.ensures.some.0
