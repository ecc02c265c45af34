use Rattle.std.proofs.Common.{◌-◌, length}
use Rattle.jsonc_text.specs.OptionsOf.{parse_options}
use Rattle.jsonc_format.proofs.Leading.{LeadsFrom}
use Rattle.jsonc_format.proofs.scan.leads_after.Given as goal

abbrev pub invariant-pieces : goal.invariant-pieces
invariant-pieces g l = LeadsFrom (parse_options l.options) l.text l.scanner l.place l.from

abbrev pub decreases-pieces : goal.decreases-pieces
decreases-pieces g l = length l.text - l.from
