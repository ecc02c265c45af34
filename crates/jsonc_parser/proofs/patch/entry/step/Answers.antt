use Rattle.std.proofs.Common.{ℕ, ◌<◌, ◌∙◌, ap, chars, length, not, subst, sym}
use Rattle.jsonc_cst.specs.Document.{nodes_of}
use Rattle.jsonc_cst.specs.Nodes.{number_of}
use Rattle.jsonc_cst.specs.Readings.{value_under}
use Rattle.jsonc_parser.specs.patch.PutSteps.{Enters, EntryHolds}
use Rattle.jsonc_parser.proofs.lemmas.patch.PutFound.{step_element, step_member, step_valueless}
use Rattle.jsonc_parser.proofs.lemmas.patch.Steps.{no_object_by, object_by}
use Rattle.jsonc_parser.proofs.patch.entry.step.Goals as goal

pub value_under-requires : goal.value_under-requires
value_under-requires g c = subst (λ (n : ℕ). n < length (nodes_of c.args.doc.now)) (sym c.number.ensures) (subst (EntryHolds c.args.doc.now) c.in-Ok-There.field-0-is c.in-Ok-There.ensures.in_document).0

pub returns-in-Ok-Stops-clause-step : goal.returns-in-Ok-Stops-clause-step
returns-in-Ok-Stops-clause-step g c = subst (Enters c.args.doc.now c.args.node (chars c.args.token.now)) c.in-Ok-Stops.field-0-is c.in-Ok-Stops.ensures.entry

pub returns-then-is_none-clause-step : goal.returns-then-is_none-clause-step
returns-then-is_none-clause-step g c =
    let doc = c.args.doc.now in
    step_element doc doc.tree.tree c.args.node (chars c.args.token.now) c.in-Ok-There.entry
    (no_object_by doc doc.tree.tree c.args.node c.requires c.as_object.result c.as_object.ensures (c.is_none.ensures ∙ ap not c.if-is_none.true))
    (subst (Enters doc c.args.node (chars c.args.token.now)) c.in-Ok-There.field-0-is c.in-Ok-There.ensures.entry)

pub returns-then-is_none-clause-in_document : goal.returns-then-is_none-clause-in_document
returns-then-is_none-clause-in_document g c = subst (EntryHolds c.args.doc.now) c.in-Ok-There.field-0-is c.in-Ok-There.ensures.in_document

pub returns-in-Some-clause-step : goal.returns-in-Some-clause-step
returns-in-Some-clause-step g c =
    let doc = c.args.doc.now in
    step_member doc doc.tree.tree c.args.node (chars c.args.token.now) c.in-Ok-There.entry
    (object_by doc doc.tree.tree c.args.node c.requires c.as_object.result c.as_object.ensures (c.is_none.ensures ∙ ap not c.if-is_none.false))
    (subst (Enters doc c.args.node (chars c.args.token.now)) c.in-Ok-There.field-0-is c.in-Ok-There.ensures.entry) c.in-Some.value
    (sym c.in-Some.is ∙ c.value_under.ensures.value ∙ ap (value_under doc) c.number.ensures)

pub returns-in-None-clause-step : goal.returns-in-None-clause-step
returns-in-None-clause-step g c =
    let doc = c.args.doc.now in
    step_valueless doc doc.tree.tree c.args.node (chars c.args.token.now) c.in-Ok-There.entry
    (object_by doc doc.tree.tree c.args.node c.requires c.as_object.result c.as_object.ensures (c.is_none.ensures ∙ ap not c.if-is_none.false))
    (subst (Enters doc c.args.node (chars c.args.token.now)) c.in-Ok-There.field-0-is c.in-Ok-There.ensures.entry)
    (sym c.in-None.is ∙ c.value_under.ensures.value ∙ ap (value_under doc) c.number.ensures)
