use Rattle.std.proofs.Common.{◌∙◌, ◌-◌, ap, arith, chars, length, not, slice_get, sym}
use Rattle.std.proofs.lemmas.Bool.{false≢true}
use Rattle.jsonc_layout.specs.nodes.Siblings.{elements_at}
use Rattle.jsonc_cst.specs.Document.{nodes_of}
use Rattle.jsonc_parser.proofs.lemmas.patch.Adding.{first_place, next_place, no_index, none_of, past_place, some_of}
use Rattle.jsonc_parser.proofs.patch.reference.element_place.Goals as goal

pub returns-then-is_hyphen : goal.returns-then-is_hyphen
returns-then-is_hyphen g c = c.is_hyphen.ensures.0 c.if-is_hyphen.true

pub returns-in_default : goal.returns-in_default
returns-in_default g c =
    let count = c.len.ensures.len ∙ ap length c.tree-tree.ensures in
    no_index (nodes_of c.args.doc.now) c.args.doc.now.tree.tree c.args.node (chars c.args.token.now) (λ e. false≢true (sym c.if-is_hyphen.false ∙ c.is_hyphen.ensures.1 e))
    (λ i index. let beyond = c.in_default.ensures.none i index in omega (arith, beyond, count))

pub returns-then-index-eq0 : goal.returns-then-index-eq0
returns-then-index-eq0 g c = first_place (nodes_of c.args.doc.now) c.args.doc.now.tree.tree c.args.node (chars c.args.token.now) c.in-Some.index c.in-Some.ensures.some.0 c.if-index-eq0.true

pub returns-then-is_none : goal.returns-then-is_none
returns-then-is_none g c =
    let missing = none_of c.element_at.result (c.is_none.ensures ∙ ap not c.if-is_none.true) in
    let reported = c.element_at.ensures.element ∙ ap (λ ns. slice_get (elements_at ns c.args.node) (c.in-Some.index - 1)) c.tree-tree.ensures in
    past_place (nodes_of c.args.doc.now) c.args.doc.now.tree.tree c.args.node (chars c.args.token.now) c.in-Some.index (λ e. false≢true (sym c.if-is_hyphen.false ∙ c.is_hyphen.ensures.1 e)) c.in-Some.ensures.some.0 c.if-index-eq0.false (sym reported ∙ missing)

pub returns : goal.returns
returns g c =
    let there = some_of c.element_at.result (c.is_none.ensures ∙ ap not c.if-is_none.false) in
    let reported = c.element_at.ensures.element ∙ ap (λ ns. slice_get (elements_at ns c.args.node) (c.in-Some.index - 1)) c.tree-tree.ensures in
    next_place (nodes_of c.args.doc.now) c.args.doc.now.tree.tree c.args.node (chars c.args.token.now) c.in-Some.index there.0 c.in-Some.ensures.some.0 (sym reported ∙ there.1)
