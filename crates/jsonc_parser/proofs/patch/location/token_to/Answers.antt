use Rattle.std.proofs.Common.{◌∙◌, ap, slice_get, subst, sym}
use Rattle.jsonc_layout.specs.nodes.Siblings.{elements_at}
use Rattle.jsonc_cst.specs.Document.{nodes_of}
use Rattle.jsonc_cst.specs.Nodes.{typed_at}
use Rattle.jsonc_parser.proofs.lemmas.patch.Located.{told_by_name, told_element}
use Rattle.jsonc_parser.proofs.lemmas.patch.Steps.{no_object_by, object_by}
use Rattle.jsonc_parser.proofs.patch.location.token_to.Goals as goal

pub name_to-requires-clause-object : goal.name_to-requires-clause-object
name_to-requires-clause-object g c = object_by c.args.doc.now c.args.doc.now.tree.tree c.args.node c.requires c.as_object.result c.as_object.ensures (sym c.is_some.ensures ∙ c.if-is_some.true)

pub returns-then-is_some-clause-token : goal.returns-then-is_some-clause-token
returns-then-is_some-clause-token g c =
    let doc = c.args.doc.now in
    let is = sym c.in-Some.is ∙ c.element_at.ensures.element ∙ ap (λ ns. slice_get (elements_at ns c.number.result) c.args.place) c.tree.ensures ∙ ap (λ n. slice_get (elements_at (nodes_of doc) n) c.args.place) c.number.ensures in
    let object = object_by doc doc.tree.tree c.args.node c.requires c.as_object.result c.as_object.ensures (sym c.is_some.ensures ∙ c.if-is_some.true) in
    told_by_name doc doc.tree.tree c.args.node c.args.place object c.in-Some.entry is c.name_to.result c.name_to.ensures.token

pub returns-in-Ok-clause-token : goal.returns-in-Ok-clause-token
returns-in-Ok-clause-token g c =
    let doc = c.args.doc.now in
    let is = sym c.in-Some.is ∙ c.element_at.ensures.element ∙ ap (λ ns. slice_get (elements_at ns c.number.result) c.args.place) c.tree.ensures ∙ ap (λ n. slice_get (elements_at (nodes_of doc) n) c.args.place) c.number.ensures in
    let no_object = no_object_by doc doc.tree.tree c.args.node c.requires c.as_object.result c.as_object.ensures (sym c.is_some.ensures ∙ c.if-is_some.false) in
    told_element doc doc.tree.tree c.args.node c.args.place no_object c.in-Some.entry is c.in-Ok.token c.node_at.result c.in-Ok.ensures.ok c.ranges.place.fits
    (c.node_at.ensures.node ∙ ap (λ ns. typed_at ns c.in-Some.entry) c.tree-in-Ok.ensures)
