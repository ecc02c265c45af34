use Rattle.jsonc_c.specs.Pointed.{IsNoStringAt}
use Rattle.jsonc_c.proofs.Patching.{unopened_finds_none}
use Rattle.jsonc_c.proofs.pointed.string_found.Goals as goal

pub returns-in-Err-clause-refused : goal.returns-in-Err-clause-refused
returns-in-Err-clause-refused c = IsNoStringAt.for_value (unopened_finds_none c.in-Err.ensures.refused)
