use Rattle.std.proofs.Common.{[], refl}
use Rattle.jsonc_cst.specs.sorting.Pins.{kept_headers}
use Rattle.jsonc_cst.proofs.lemmas.sorting.UnderBlankLines.{kept_under, none_under, where_under}
use Rattle.jsonc_cst.proofs.sorted.laws.rules_pin_under_blank_lines.Goals as goal

pub returns-clause-none : goal.returns-clause-none
returns-clause-none g c = λ d node groups. none_under d node [] refl

pub returns-clause-lines : goal.returns-clause-lines
returns-clause-lines g c = λ d node pin groups. where_under d node pin

pub returns-clause-kept : goal.returns-clause-kept
returns-clause-kept g c = λ d node groups. kept_under d node (kept_headers d node) refl
