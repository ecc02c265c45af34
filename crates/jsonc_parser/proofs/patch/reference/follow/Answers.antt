use Rattle.std.proofs.Common.{◌∙◌, ap, arith, chars, IfSome, List, None, Some, sym, subst, ℕ}
use Rattle.jsonc_layout.specs.input.Views.{chars_of}
use Rattle.jsonc_cst.specs.Document.{HasNode}
use Rattle.jsonc_parser.specs.paths.Found.{names_of}
use Rattle.jsonc_parser.specs.patch.Lookups.{StepFails, StepsTo}
use Rattle.jsonc_parser.proofs.lemmas.patch.Steps.{all_lead, begins_with, begins_without, none_leads, one_fails, one_leads}
use Rattle.jsonc_parser.proofs.patch.reference.follow.Goals as goal

pub returns-in_default-clause-found : goal.returns-in_default-clause-found
returns-in_default-clause-found g c = begins_without c.args.doc.now c.args.doc.now.tree.tree (sym c.in_default.is ∙ c.value.ensures.value) (names_of c.args.tokens.now)

pub loop-token-init : goal.loop-token-init
loop-token-init g c = (begins_with c.args.doc.now c.args.doc.now.tree.tree c.in-Some.value (sym c.in-Some.is ∙ c.value.ensures.value), c.in-Some.ensures.in_document)

pub step-requires : goal.step-requires
step-requires g c = c.loop-token.invariant.1

pub loop-token-preserved : goal.loop-token-preserved
loop-token-preserved g c =
    let doc = c.args.doc.now in
    let inner = c.in-Ok-Some.inner in
    let found = subst (StepsTo doc c.loop-token.node (chars c.deref.result.now)) c.in-Ok-Some.field-0-is c.in-Ok-Some.ensures.found in (
      one_leads doc doc.tree.tree c.args.tokens.now c.loop-token.token-index c.loop-token.node c.loop-token.invariant.0 c.token-item.result c.loop-token-test.true inner
          (subst (λ (s : List ℕ). StepsTo doc c.loop-token.node s (Some inner)) (ap chars c.deref.ensures ∙ ap chars_of c.token-item.is) found),
      subst (λ o. IfSome o (HasNode doc)) c.in-Ok-Some.field-0-is c.in-Ok-Some.ensures.in_document,
    )

pub returns-in-Ok-None-clause-found : goal.returns-in-Ok-None-clause-found
returns-in-Ok-None-clause-found g c =
    let doc = c.args.doc.now in
    let found = subst (StepsTo doc c.loop-token.node (chars c.deref.result.now)) c.in-Ok-None.field-0-is c.in-Ok-None.ensures.found in
    none_leads doc doc.tree.tree c.args.tokens.now c.loop-token.token-index c.loop-token.node c.loop-token.invariant.0 c.token-item.result c.loop-token-test.true
    (subst (λ (s : List ℕ). StepsTo doc c.loop-token.node s None) (ap chars c.deref.ensures ∙ ap chars_of c.token-item.is) found)

pub returns-clause-found : goal.returns-clause-found
returns-clause-found g c =
    all_lead c.args.doc.now c.args.doc.now.tree.tree c.args.tokens.now c.loop-token.token-index c.loop-token.node c.loop-token.invariant.0 (omega (arith, c.loop-token-test.false))

pub returns-clause-in_document : goal.returns-clause-in_document
returns-clause-in_document g c = c.loop-token.invariant.1

pub returns-in-Err-clause-fails : goal.returns-in-Err-clause-fails
returns-in-Err-clause-fails g c =
    let doc = c.args.doc.now in
    one_fails doc doc.tree.tree c.args.tokens.now c.loop-token.token-index c.loop-token.node c.loop-token.invariant.0 c.token-item.result c.loop-token-test.true c.in-Err.error
    (subst (λ (s : List ℕ). StepFails doc c.loop-token.node s c.in-Err.error) (ap chars c.deref.ensures ∙ ap chars_of c.token-item.is) c.in-Err.ensures.fails)
