use Rattle.std.proofs.Common.{◌-◌, length}
use Rattle.jsonc_text.specs.OptionsOf.{parse_options}
use Rattle.jsonc_format.specs.Gaps.{IsNextEnd}
use Rattle.jsonc_format.specs.Writing.{style_in, text_of}
use Rattle.jsonc_format.proofs.Printed.{Going}
use Rattle.jsonc_format.proofs.Reading.{IsAt}
use Rattle.jsonc_format.proofs.print.print.Given as goal

abbrev pub invariant-pieces : goal.invariant-pieces
invariant-pieces g l = IsAt (parse_options l.options) l.text l.scanner l.from × Going (parse_options l.options) (style_in l.layout) l.text l.flat l.from (text_of l.out) l.track × IsNextEnd l.text l.from l.line_end

abbrev pub decreases-pieces : goal.decreases-pieces
decreases-pieces g l = length l.text - l.from
