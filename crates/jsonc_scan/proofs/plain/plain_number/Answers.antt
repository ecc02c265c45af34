use Rattle.std.proofs.Common.{arith}
use Rattle.jsonc_text.specs.Options.{all_on}
use Rattle.jsonc_scan.proofs.Reading.{number_read}
use Rattle.jsonc_scan.proofs.plain.plain_number.Goals as goal

pub returns : goal.returns
returns c = λ o. number_read o _ _ _ _ c.utf8.text c.requires c.range-text.ensures.value (c.in-Some.ensures o)

pub range-text-requires-clause-start_le_end : goal.range-text-requires-clause-start_le_end
range-text-requires-clause-start_le_end c = let n = c.in-Some.ensures all_on in omega (arith, n.order)

pub range-text-requires-clause-end_boundary : goal.range-text-requires-clause-end_boundary
range-text-requires-clause-end_boundary c = (c.in-Some.ensures all_on).boundary
