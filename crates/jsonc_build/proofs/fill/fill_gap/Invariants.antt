use Rattle.std.proofs.Common.{◌-◌, length}
use Rattle.jsonc_text.specs.OptionsOf.{parse_options}
use Rattle.jsonc_build.proofs.FilledTo.{FilledTo}
use Rattle.jsonc_build.proofs.fill.fill_gap.Given as goal

abbrev pub invariant-leaves : goal.invariant-leaves
invariant-leaves g l = FilledTo (parse_options l.options) l.fn.tree l.tree l.text l.from l.place

abbrev pub decreases-leaves : goal.decreases-leaves
decreases-leaves g l = length l.text - l.place
