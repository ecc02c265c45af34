use Rattle.jsonc_layout.proofs.lemmas.from_input.ValueLevels.{holds_found, holds_passed, holds_end}
use Rattle.jsonc_layout.proofs.from_input.values.holds_filled.Goals as goal

pub returns-then-is_filled : goal.returns-then-is_filled
returns-then-is_filled g c = holds_found c.args.elements.now c.loop-element.element-index c.element-item.result c.is_filled.result c.loop-element.invariant c.loop-element-test.true c.element-item.is c.is_filled.ensures c.if-is_filled.true

pub loop-element-preserved : goal.loop-element-preserved
loop-element-preserved g c = holds_passed c.args.elements.now c.loop-element.element-index c.element-item.result c.is_filled.result c.loop-element.invariant c.loop-element-test.true c.element-item.is c.is_filled.ensures c.if-is_filled.false

pub returns : goal.returns
returns g c = holds_end c.args.elements.now c.loop-element.element-index c.loop-element.invariant c.loop-element-test.false
