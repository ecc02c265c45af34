use Rattle.std.proofs.Common.{ℕ, ◌<◌, ◌∙◌, ap, chars, length, not, subst, sym, Some, None}
use Rattle.jsonc_cst.specs.Document.{nodes_of}
use Rattle.jsonc_cst.specs.Nodes.{typed_at}
use Rattle.jsonc_parser.specs.patch.Lookups.{IsElementBy}
use Rattle.jsonc_parser.proofs.lemmas.patch.Steps.{array_by, no_array_by, no_object_by, object_by, step_element, step_no_element, step_stops}
use Rattle.jsonc_parser.proofs.patch.reference.step.Goals as goal

pub member-requires-clause-object : goal.member-requires-clause-object
member-requires-clause-object g c = object_by c.args.doc.now c.args.doc.now.tree.tree c.args.node c.requires c.as_object.result c.as_object.ensures (sym c.is_some.ensures ∙ c.if-is_some.true)

pub element-requires : goal.element-requires
element-requires g c = subst (λ (n : ℕ). n < length (nodes_of c.args.doc.now)) (sym c.number.ensures) c.requires.0

pub returns-then-is_none-clause-found : goal.returns-then-is_none-clause-found
returns-then-is_none-clause-found g c =
    let doc = c.args.doc.now in
    let no_object = no_object_by doc doc.tree.tree c.args.node c.requires c.as_object.result c.as_object.ensures (sym c.is_some.ensures ∙ c.if-is_some.false) in
    let no_array = no_array_by doc doc.tree.tree c.args.node c.requires c.as_array.result c.as_array.ensures (c.is_none.ensures ∙ ap not c.if-is_none.true) in
    step_stops doc doc.tree.tree c.args.node (chars c.args.token.now) no_object no_array

pub returns-in-Some-clause-found : goal.returns-in-Some-clause-found
returns-in-Some-clause-found g c =
    let doc = c.args.doc.now in
    let v = chars c.args.token.now in
    let is = array_by doc doc.tree.tree c.args.node c.requires c.as_array.result c.as_array.ensures (c.is_none.ensures ∙ ap not c.if-is_none.false) in
    let there = subst (λ (n : ℕ). IsElementBy (nodes_of doc) n v (Some c.in-Some.inner)) c.number.ensures c.in-Some.ensures.element in
    step_element doc doc.tree.tree c.args.node v is c.in-Some.inner there c.node_at.result (c.node_at.ensures.node ∙ ap (λ l. typed_at l c.in-Some.inner) c.tree.ensures)

pub returns-in-None-clause-found : goal.returns-in-None-clause-found
returns-in-None-clause-found g c =
    let doc = c.args.doc.now in
    let v = chars c.args.token.now in
    let is = array_by doc doc.tree.tree c.args.node c.requires c.as_array.result c.as_array.ensures (c.is_none.ensures ∙ ap not c.if-is_none.false) in
    let there = subst (λ (n : ℕ). IsElementBy (nodes_of doc) n v None) c.number.ensures c.in-None.ensures.element in
    step_no_element doc doc.tree.tree c.args.node v is there
