use Rattle.std.proofs.Common.{◌-◌, length}
use Rattle.jsonc_text.specs.OptionsOf.{parse_options}
use Rattle.jsonc_format.proofs.FoundStyles.{NoLevel}
use Rattle.jsonc_format.proofs.Reading.{IsAt}
use Rattle.jsonc_format.proofs.found.found_level.Given as goal

abbrev pub invariant-pieces : goal.invariant-pieces
invariant-pieces g l = IsAt (parse_options l.options) l.text l.scanner l.from × NoLevel (parse_options l.options) l.text l.from l.depth

abbrev pub decreases-pieces : goal.decreases-pieces
decreases-pieces g l = length l.text - l.from
