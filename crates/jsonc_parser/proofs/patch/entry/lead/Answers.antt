use Rattle.std.proofs.Common.{◌∙◌, List, ap, arith, chars, sym, subst, ℕ}
use Rattle.jsonc_layout.specs.input.Views.{chars_of}
use Rattle.jsonc_parser.specs.paths.Found.{names_of}
use Rattle.jsonc_parser.specs.patch.PutSteps.{EntryHolds, StepsTo}
use Rattle.jsonc_parser.specs.declared.patch.entry.Entry.TheVariants as entries
use Rattle.jsonc_parser.proofs.lemmas.patch.PutFound.{all_led, begins_first, begins_nothing, escaped_led, one_led, stops_led}
use Rattle.jsonc_parser.proofs.patch.entry.lead.Goals as goal

pub returns-in_default-clause-led : goal.returns-in_default-clause-led
returns-in_default-clause-led g c = begins_nothing c.args.doc.now c.args.doc.now.tree.tree (sym c.in_default.is ∙ c.value.ensures.value) (names_of c.args.tokens.now)

pub loop-number-init : goal.loop-number-init
loop-number-init g c = (begins_first c.args.doc.now c.args.doc.now.tree.tree c.in-Some.value (sym c.in-Some.is ∙ c.value.ensures.value), c.in-Some.ensures.in_document)

pub step-requires : goal.step-requires
step-requires g c = c.loop-number.invariant.1

pub loop-number-preserved : goal.loop-number-preserved
loop-number-preserved g c =
    let doc = c.args.doc.now in
    let inner = c.in-Ok-There.inner in
    let found = subst (StepsTo doc c.loop-number.node (chars c.deref.result.now)) c.in-Ok-There.field-0-is c.in-Ok-There.ensures.step in (
      one_led doc doc.tree.tree c.args.tokens.now c.loop-number.number c.loop-number.node c.loop-number.invariant.0 c.index-tokens-number.result c.loop-number-test.true inner
          (subst (λ (s : List ℕ). StepsTo doc c.loop-number.node s (entries.There inner)) (ap chars c.deref.ensures ∙ ap chars_of c.index-tokens-number.is) found),
      subst (EntryHolds doc) c.in-Ok-There.field-0-is c.in-Ok-There.ensures.in_document,
    )

pub returns-in-Ok-Stops-clause-led : goal.returns-in-Ok-Stops-clause-led
returns-in-Ok-Stops-clause-led g c =
    let doc = c.args.doc.now in
    let found = subst (StepsTo doc c.loop-number.node (chars c.deref.result.now)) c.in-Ok-Stops.field-0-is c.in-Ok-Stops.ensures.step in
    stops_led doc doc.tree.tree c.args.tokens.now c.loop-number.number c.loop-number.node c.loop-number.invariant.0 c.index-tokens-number.result c.loop-number-test.true c.in-Ok-Stops.stop
    (subst (λ (s : List ℕ). StepsTo doc c.loop-number.node s (entries.Stops c.in-Ok-Stops.stop)) (ap chars c.deref.ensures ∙ ap chars_of c.index-tokens-number.is) found)

pub returns-in-Ok-Stops-clause-in_document : goal.returns-in-Ok-Stops-clause-in_document
returns-in-Ok-Stops-clause-in_document g c = (c.loop-number.invariant.1, c.loop-number-test.true)

pub returns-clause-led : goal.returns-clause-led
returns-clause-led g c = all_led c.args.doc.now c.args.doc.now.tree.tree c.args.tokens.now c.loop-number.number c.loop-number.node c.loop-number.invariant.0 (omega (arith, c.loop-number-test.false))

pub returns-clause-in_document : goal.returns-clause-in_document
returns-clause-in_document g c = c.loop-number.invariant.1

pub returns-in-Err-clause-escaped : goal.returns-in-Err-clause-escaped
returns-in-Err-clause-escaped g c =
    escaped_led c.args.doc.now c.args.doc.now.tree.tree c.args.tokens.now c.loop-number.number c.loop-number.node c.loop-number.invariant.0 c.index-tokens-number.result c.loop-number-test.true c.in-Err.ensures.escaped
