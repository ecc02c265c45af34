use Rattle.std.proofs.Common.{ap, chars, subst, sym, ◌∙◌, arith}
use Rattle.jsonc_layout.specs.input.Views.{chars_of}
use Rattle.jsonc_parser.specs.paths.Reach.{StepHolds, StepsWhatShown}
use Rattle.jsonc_parser.proofs.lemmas.paths.Routes.{leads_begin, leads_more, reached_another, reached_missing, reached_nothing, reached_value}
use Rattle.jsonc_parser.proofs.paths.reached.reach.Goals as goal

pub returns-in_default-clause-reached : goal.returns-in_default-clause-reached
returns-in_default-clause-reached g c = reached_nothing c.args.which c.args.doc.now c.args.doc.now.tree.tree (sym c.in_default.is ∙ c.value.ensures.value)

pub loop-count-init : goal.loop-count-init
loop-count-init g c =
    (leads_begin c.args.which c.args.doc.now c.in-Some.value c.new-path.result.items c.new-path.ensures.items c.args.doc.now.tree.tree (sym c.in-Some.is ∙ c.value.ensures.value), c.in-Some.ensures.in_document)

pub step_from-requires : goal.step_from-requires
step_from-requires g c = c.loop-count.invariant.1

pub loop-count-preserved : goal.loop-count-preserved
loop-count-preserved g c = (
  leads_more c.args.which c.args.doc.now c.args.names.now c.loop-count.count c.index-names-count.result c.loop-count-test.true c.loop-count.path.items c.loop-count.node (chars c.deref.result.now)
      (ap chars c.deref.ensures ∙ ap chars_of c.index-names-count.is) c.loop-count.invariant.0 c.push.new.self.items c.in-Ok-On.index c.in-Ok-On.inner c.in-Ok.ensures.items
      (subst (StepsWhatShown c.args.which c.args.doc.now c.loop-count.node (chars c.deref.result.now)) c.in-Ok-On.field-0-is c.in-Ok-On.ensures.step),
  subst (StepHolds c.args.doc.now) c.in-Ok-On.field-0-is c.in-Ok-On.ensures.in_document,
)

pub returns-in-Ok-Missing-clause-reached : goal.returns-in-Ok-Missing-clause-reached
returns-in-Ok-Missing-clause-reached g c =
    reached_missing c.args.which c.args.doc.now c.args.names.now c.loop-count.count c.index-names-count.result c.loop-count-test.true c.loop-count.path.items c.loop-count.node (chars c.deref.result.now)
    (ap chars c.deref.ensures ∙ ap chars_of c.index-names-count.is) c.loop-count.invariant.0
    (subst (StepsWhatShown c.args.which c.args.doc.now c.loop-count.node (chars c.deref.result.now)) c.in-Ok-Missing.field-0-is c.in-Ok-Missing.ensures.step)

pub returns-in-Ok-Another-clause-reached : goal.returns-in-Ok-Another-clause-reached
returns-in-Ok-Another-clause-reached g c =
    reached_another c.args.which c.args.doc.now c.args.names.now c.loop-count.count c.index-names-count.result c.loop-count-test.true c.loop-count.path.items c.loop-count.node (chars c.deref.result.now)
    (ap chars c.deref.ensures ∙ ap chars_of c.index-names-count.is) c.loop-count.invariant.0
    (subst (StepsWhatShown c.args.which c.args.doc.now c.loop-count.node (chars c.deref.result.now)) c.in-Ok-Another.field-0-is c.in-Ok-Another.ensures.step)

pub returns-clause-reached : goal.returns-clause-reached
returns-clause-reached g c =
    reached_value c.args.which c.args.doc.now c.args.names.now c.loop-count.count c.loop-count.path.items c.loop-count.node (omega (arith, c.loop-count-test.false)) c.loop-count.invariant.0
