use Rattle.std.proofs.Common.{◌∙◌, ◌+◌, arith, drop, IfSome, List, Option, subst, sym, ℕ}
use Rattle.std.proofs.lemmas.List.{drop_all}
use Rattle.std.specs.declared.string.String.{String}
use Rattle.jsonc_cst.specs.declared.cst.node.CstNode.{CstNode}
use Rattle.jsonc_cst.specs.Document.{HasNode}
use Rattle.jsonc_parser.proofs.lemmas.patch.Located.{arrives, goes_on_by, starts, starts_nowhere, stops_here_by, IsOnTheWay}
use Rattle.jsonc_parser.proofs.patch.location.tokens_over.Goals as goal

pub returns-in_default-clause-tokens : goal.returns-in_default-clause-tokens
returns-in_default-clause-tokens g c = λ n at. starts_nowhere c.args.doc.now c.args.doc.now.tree.tree (sym c.in_default.is ∙ c.value.ensures.value) n

pub loop-place-init : goal.loop-place-init
loop-place-init g c = (
  c.in-Some.ensures.in_document,
  λ n at. (let doc = c.args.doc.now in
      subst (λ (ts : List (String g.row.A.Denot)). IsOnTheWay doc n ts c.in-Some.value c.args.path.now) (sym c.new-tokens.ensures.items) (starts doc doc.tree.tree c.in-Some.value (sym c.in-Some.is ∙ c.value.ensures.value) c.args.path.now n at)),
)

pub returns-in-Ok-None-clause-tokens : goal.returns-in-Ok-None-clause-tokens
returns-in-Ok-None-clause-tokens g c = λ n at.
    let doc = c.args.doc.now in
    stops_here_by doc doc.tree.tree n c.loop-place.tokens.items c.loop-place.node c.args.path.now c.loop-place.place-index c.loop-place-test.true (c.loop-place.invariant.1 n at) c.in-Ok-None.field-0 c.in-Ok-None.ensures.token c.in-Ok-None.field-0-is

pub loop-place-preserved : goal.loop-place-preserved
loop-place-preserved g c = (
  subst (λ (o : Option (String g.row.A.Denot × CstNode)). IfSome o (λ t. HasNode c.args.doc.now t.1)) c.in-Ok-Some.field-0-is c.in-Ok-Some.ensures.in_document,
  λ n at. (let doc = c.args.doc.now in
      subst (λ (ts : List (String g.row.A.Denot)). IsOnTheWay doc n ts c.in-Ok-Some.inner (drop (c.loop-place.place-index + 1) c.args.path.now)) (sym c.in-Ok.ensures.items)
      (goes_on_by doc doc.tree.tree n c.loop-place.tokens.items c.loop-place.node c.args.path.now c.loop-place.place-index c.loop-place-test.true (c.loop-place.invariant.1 n at) c.in-Ok-Some.field-0 c.in-Ok-Some.ensures.token c.in-Ok-Some.token c.in-Ok-Some.inner c.in-Ok-Some.field-0-is)),
)

pub returns-clause-tokens : goal.returns-clause-tokens
returns-clause-tokens g c = λ n at.
    let doc = c.args.doc.now in
    arrives doc doc.tree.tree n c.loop-place.tokens c.loop-place.node (subst (IsOnTheWay doc n c.loop-place.tokens.items c.loop-place.node) (drop_all c.loop-place.place-index c.args.path.now (omega (arith, c.loop-place-test.false))) (c.loop-place.invariant.1 n at))
