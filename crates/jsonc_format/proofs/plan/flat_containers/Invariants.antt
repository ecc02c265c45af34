use Rattle.std.proofs.Common.{◌-◌, length}
use Rattle.jsonc_text.specs.OptionsOf.{parse_options}
use Rattle.jsonc_format.specs.Gaps.{IsNextEnd}
use Rattle.jsonc_format.proofs.Planned.{PlansAt}
use Rattle.jsonc_format.proofs.Reading.{IsAt}
use Rattle.jsonc_format.proofs.plan.flat_containers.Given as goal

abbrev pub invariant-pieces : goal.invariant-pieces
invariant-pieces g l = IsAt (parse_options l.options) l.text l.scanner l.from × PlansAt (parse_options l.options) l.text l.from l.plan × IsNextEnd l.text l.from l.line_end

abbrev pub decreases-pieces : goal.decreases-pieces
decreases-pieces g l = length l.text - l.from
