use Rattle.std.proofs.Common.{◌-◌, ◌∙◌, ◌∷◌, [], ap, arith}
use Rattle.jsonc_layout.specs.input.Views.{chars_of, plain}
use Rattle.jsonc_parser.specs.paths.Settings.{nest}
use Rattle.jsonc_parser.proofs.lemmas.paths.EditOutcome.{nest_begins, nest_ends, nest_more}
use Rattle.jsonc_parser.proofs.paths.put.nested.Goals as goal

pub loop-count-init : goal.loop-count-init
loop-count-init g c = (nest_begins c.args.names.now (plain c.args.value), omega arith)

pub loop-count-preserved : goal.loop-count-preserved
loop-count-preserved g c = (
  nest_more c.args.names.now (c.loop-count.count - 1) c.loop-count.count c.index-names-count.result (plain c.loop-count.nested) (plain c.in-Ok.nested) (plain c.args.value)
      (omega (arith, c.loop-count-test.true, c.loop-count.invariant.1)) (omega (arith, c.loop-count-test.true))
      (c.in-Ok.ensures.nested ∙ ap (λ s. nest (chars_of s ∷ []) (plain c.loop-count.nested)) c.index-names-count.is) c.loop-count.invariant.0,
  omega (arith, c.loop-count.invariant.1),
)

pub returns-clause-nested : goal.returns-clause-nested
returns-clause-nested g c = nest_ends c.args.names.now c.loop-count.count (plain c.loop-count.nested) (plain c.args.value) (omega (arith, c.loop-count-test.false)) c.loop-count.invariant.0
