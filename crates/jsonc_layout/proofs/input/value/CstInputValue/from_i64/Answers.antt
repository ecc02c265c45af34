use Rattle.std.proofs.Common.{arith, ◌∙◌, ap}
use Rattle.std.specs.Fmt.{signed_decimal}
use Rattle.std.proofs.Math.Facts.{to_z-of_z}
use Rattle.jsonc_layout.proofs.lemmas.input.Decimals.{plain_signed, always_signed}
use Rattle.jsonc_layout.proofs.input.value.CstInputValue.from_i64.Goals as goal

pub returns-clause-value : goal.returns-clause-value
returns-clause-value g c = plain_signed _ c.args.value (omega arith) (c.in_ok-text.ensures.ok ∙ ap signed_decimal (to_z-of_z c.ranges.value))

pub returns-clause-literal : goal.returns-clause-literal
returns-clause-literal g c = always_signed _ c.args.value (omega arith) (c.in_ok-text.ensures.ok ∙ ap signed_decimal (to_z-of_z c.ranges.value))
