use Rattle.jsonc_insert.proofs.PastTheEnd.{past_the_end}
use Rattle.jsonc_insert.proofs.laws.numbers_past_the_end_append.Goals as goal

pub returns : goal.returns
returns c = past_the_end
