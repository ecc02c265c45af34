use Rattle.std.proofs.Common.{chars, subst, sym, ◌∙◌}
use Rattle.jsonc_cst.specs.Document.{HasNode}
use Rattle.jsonc_parser.specs.paths.Which.{IsChosenNamed}
use Rattle.jsonc_parser.proofs.lemmas.paths.OneName.{steps_nowhere, steps_on, steps_to_another, steps_to_missing}
use Rattle.jsonc_parser.proofs.lemmas.paths.MemoryNeeded.{escaped_here}
use Rattle.jsonc_parser.proofs.paths.reached.step_from.Goals as goal

pub returns-in_default-clause-step : goal.returns-in_default-clause-step
returns-in_default-clause-step g c =
    steps_to_another c.args.which c.args.doc.now c.args.doc.now.tree.tree c.args.node (chars c.args.name.now) c.requires (λ x e. c.in_default.not-Some x ((c.as_object.ensures x).1 e))

pub property_of-requires : goal.property_of-requires
property_of-requires g c = subst (HasNode c.args.doc.now) ((c.as_object.ensures c.in-Some.object).0 c.in-Some.is) c.requires

pub returns-in-Ok-None-clause-step : goal.returns-in-Ok-None-clause-step
returns-in-Ok-None-clause-step g c =
    steps_to_missing c.args.which c.args.doc.now c.args.doc.now.tree.tree c.args.node c.in-Some.object (chars c.args.name.now) c.requires ((c.as_object.ensures c.in-Some.object).0 c.in-Some.is)
    (subst (IsChosenNamed c.args.which c.args.doc.now c.in-Some.object (chars c.args.name.now)) c.in-Ok-None.field-0-is c.in-Ok-None.ensures.found)

pub returns-in-Some-value-clause-step : goal.returns-in-Some-value-clause-step
returns-in-Some-value-clause-step g c =
    steps_on c.args.which c.args.doc.now c.args.doc.now.tree.tree c.args.node c.in-Some.object (chars c.args.name.now) c.requires ((c.as_object.ensures c.in-Some.object).0 c.in-Some.is) c.in-Ok-Some.property
    (subst (IsChosenNamed c.args.which c.args.doc.now c.in-Some.object (chars c.args.name.now)) c.in-Ok-Some.field-0-is c.in-Ok-Some.ensures.found)
    c.property_index-index.result c.property_index-index.ensures c.in-Some-value.value (sym c.in-Some-value.is ∙ c.value.ensures.value)

pub returns-in-None-clause-step : goal.returns-in-None-clause-step
returns-in-None-clause-step g c =
    steps_nowhere c.args.which c.args.doc.now c.args.doc.now.tree.tree c.args.node c.in-Some.object (chars c.args.name.now) c.requires ((c.as_object.ensures c.in-Some.object).0 c.in-Some.is) c.in-Ok-Some.property
    (subst (IsChosenNamed c.args.which c.args.doc.now c.in-Some.object (chars c.args.name.now)) c.in-Ok-Some.field-0-is c.in-Ok-Some.ensures.found)
    (sym c.in-None.is ∙ c.value.ensures.value)

pub returns-in-Err-clause-escaped : goal.returns-in-Err-clause-escaped
returns-in-Err-clause-escaped g c = escaped_here c.args.doc.now c.args.node c.in-Some.object ((c.as_object.ensures c.in-Some.object).0 c.in-Some.is) c.in-Err.ensures.escaped
