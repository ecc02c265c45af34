use Rattle.std.proofs.Common.{ℕ, ◌<◌, ◌∙◌, Option, ap, chars, length, subst, sym, None, Some}
use Rattle.jsonc_cst.specs.Document.{nodes_of}
use Rattle.jsonc_cst.specs.Nodes.{number_of, typed_at}
use Rattle.jsonc_parser.specs.patch.Applied.{IsPlaceBy}
use Rattle.jsonc_parser.specs.patch.Lookups.{IsElementBy}
use Rattle.jsonc_parser.proofs.lemmas.patch.PutFound.{enter_after_some, enter_element, enter_no_index_none, enter_past_none}
use Rattle.jsonc_parser.proofs.patch.entry.enter_array.Goals as goal

pub element-requires : goal.element-requires
element-requires g c = subst (λ (n : ℕ). n < length (nodes_of c.args.doc.now)) (sym c.number-number.ensures) c.requires.in_document.0

pub element_place-requires : goal.element_place-requires
element_place-requires g c = subst (λ (n : ℕ). n < length (nodes_of c.args.doc.now)) (sym c.number-number.ensures) c.requires.in_document.0

pub returns-in-Some-clause-entry : goal.returns-in-Some-clause-entry
returns-in-Some-clause-entry g c =
    let doc = c.args.doc.now in
    let there = subst (λ (n : ℕ). IsElementBy (nodes_of doc) n (chars c.args.token.now) (Some c.in-Some.inner)) c.number-number.ensures c.in-Some.ensures.element in
    enter_element doc doc.tree.tree c.args.array (chars c.args.token.now) c.requires.array c.in-Some.inner there c.node_at.result (c.node_at.ensures.node ∙ ap (λ l. typed_at l c.in-Some.inner) c.tree.ensures)

pub returns-then-is_some-clause-entry : goal.returns-then-is_some-clause-entry
returns-then-is_some-clause-entry g c =
    let doc = c.args.doc.now in
    let v = chars c.args.token.now in
    let none = subst (λ (n : ℕ). IsElementBy (nodes_of doc) n v None) c.number-number.ensures c.in_default.ensures.element in
    let place = subst (λ (n : ℕ). IsPlaceBy (nodes_of doc) n v c.element_place.result) c.number-number.ensures c.element_place.ensures in
    enter_after_some doc doc.tree.tree c.args.array v c.requires.array none c.element_place.result place (sym c.is_some.ensures ∙ c.if-is_some.true)

pub returns-then-is_index-clause-entry : goal.returns-then-is_index-clause-entry
returns-then-is_index-clause-entry g c =
    let doc = c.args.doc.now in
    let v = chars c.args.token.now in
    let place = subst (λ (n : ℕ). IsPlaceBy (nodes_of doc) n v c.element_place.result) c.number-number.ensures c.element_place.ensures in
    enter_past_none doc doc.tree.tree c.args.array v c.requires.array c.element_place.result place (sym c.is_some.ensures ∙ c.if-is_some.false) c.is_index.result c.is_index.ensures c.if-is_index.true

pub returns-clause-entry : goal.returns-clause-entry
returns-clause-entry g c =
    let doc = c.args.doc.now in
    let v = chars c.args.token.now in
    let place = subst (λ (n : ℕ). IsPlaceBy (nodes_of doc) n v c.element_place.result) c.number-number.ensures c.element_place.ensures in
    enter_no_index_none doc doc.tree.tree c.args.array v c.requires.array c.element_place.result place (sym c.is_some.ensures ∙ c.if-is_some.false) c.is_index.result c.is_index.ensures c.if-is_index.false
