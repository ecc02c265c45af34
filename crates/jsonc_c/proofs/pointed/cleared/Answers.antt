use Rattle.jsonc_c.specs.Pointed.{IsUncleared}
use Rattle.jsonc_c.proofs.pointed.cleared.Goals as goal

pub returns-in-Err-clause-refused : goal.returns-in-Err-clause-refused
returns-in-Err-clause-refused c = IsUncleared.for_words c.in-Err.ensures.refused
