use Rattle.std.proofs.Common.{◌∙◌, ap, arith, chars, subst, sym}
use Rattle.jsonc_layout.specs.input.Views.{chars_of}
use Rattle.jsonc_parser.specs.paths.Found.{names_of}
use Rattle.jsonc_parser.specs.paths.Reach.{StepHolds, StepsWhatShown}
use Rattle.jsonc_parser.proofs.lemmas.paths.Found.{value_found}
use Rattle.jsonc_parser.proofs.lemmas.paths.MemoryNeeded.{leads_further, passes, way_is_barred, way_is_free, way_is_missing, way_without_value}
use Rattle.jsonc_parser.proofs.paths.reached.is_in_the_way.Goals as goal

pub returns-in_default-clause-in_the_way : goal.returns-in_default-clause-in_the_way
returns-in_default-clause-in_the_way g c = way_without_value c.args.which c.args.doc.now c.args.doc.now.tree.tree (sym c.in_default.is ∙ c.value.ensures.value) (names_of c.args.names.now)

pub loop-name-init : goal.loop-name-init
loop-name-init g c = (value_found c.args.which c.args.doc.now c.args.doc.now.tree.tree c.in-Some.value (sym c.in-Some.is ∙ c.value.ensures.value), c.in-Some.ensures.in_document)

pub step_from-requires : goal.step_from-requires
step_from-requires g c = c.loop-name.invariant.1

pub loop-name-preserved : goal.loop-name-preserved
loop-name-preserved g c = (
  leads_further c.args.which c.args.doc.now c.args.names.now c.loop-name.name-index c.loop-name.node c.loop-name.invariant.0 c.name-item.result c.loop-name-test.true (chars c.deref.result.now)
      (ap chars c.deref.ensures ∙ ap chars_of c.name-item.is) c.in-Ok-On.field-0-0 c.in-Ok-On.inner
      (subst (StepsWhatShown c.args.which c.args.doc.now c.loop-name.node (chars c.deref.result.now)) c.in-Ok-On.field-0-is c.in-Ok-On.ensures.step),
  subst (StepHolds c.args.doc.now) c.in-Ok-On.field-0-is c.in-Ok-On.ensures.in_document,
)

pub returns-in-Ok-Missing-clause-in_the_way : goal.returns-in-Ok-Missing-clause-in_the_way
returns-in-Ok-Missing-clause-in_the_way g c =
    way_is_missing c.args.which c.args.doc.now c.args.names.now c.loop-name.name-index c.loop-name.node c.loop-name.invariant.0 c.name-item.result c.loop-name-test.true (chars c.deref.result.now)
    (ap chars c.deref.ensures ∙ ap chars_of c.name-item.is)
    (subst (StepsWhatShown c.args.which c.args.doc.now c.loop-name.node (chars c.deref.result.now)) c.in-Ok-Missing.field-0-is c.in-Ok-Missing.ensures.step)

pub returns-in-Ok-Another-clause-in_the_way : goal.returns-in-Ok-Another-clause-in_the_way
returns-in-Ok-Another-clause-in_the_way g c =
    way_is_barred c.args.which c.args.doc.now c.args.names.now c.loop-name.name-index c.loop-name.node c.loop-name.invariant.0 c.name-item.result c.loop-name-test.true (chars c.deref.result.now)
    (subst (StepsWhatShown c.args.which c.args.doc.now c.loop-name.node (chars c.deref.result.now)) c.in-Ok-Another.field-0-is c.in-Ok-Another.ensures.step)

pub returns-in-Err-clause-oom_only_if : goal.returns-in-Err-clause-oom_only_if
returns-in-Err-clause-oom_only_if g c =
    passes c.args.which c.args.doc.now c.args.names.now c.loop-name.name-index c.loop-name.node c.loop-name.invariant.0 c.name-item.result c.loop-name-test.true c.in-Err.ensures.escaped

pub returns-clause-in_the_way : goal.returns-clause-in_the_way
returns-clause-in_the_way g c = way_is_free c.args.which c.args.doc.now c.args.names.now c.loop-name.name-index c.loop-name.node c.loop-name.invariant.0 (omega (arith, c.loop-name-test.false))
