use Rattle.std.proofs.Common.{◌≡◌}
use Rattle.jsonc_layout.specs.input.Views.{items_plain}
use Rattle.jsonc_layout.specs.from_input.Laid.{holds_filled}
use Rattle.jsonc_layout.proofs.lemmas.from_input.ValueLevels.{holds_from}
use Rattle.jsonc_layout.proofs.from_input.values.holds_filled.Given as goal

abbrev pub invariant-loop-element : goal.invariant-loop-element
invariant-loop-element g l = holds_from l.elements l.element-index ≡ holds_filled (items_plain l.elements)
