use Rattle.jsonc_engine.proofs.FaultTexts.{told_of_check}
use Rattle.jsonc_engine.proofs.engine.unchanged.Goals as goal

pub returns-in-Err-clause-refused : goal.returns-in-Err-clause-refused
returns-in-Err-clause-refused g c = λ request. (
  record { fault = c.in-Err.ensures.fault; refused = c.in-Err.ensures.refused; error = c.in-Err.ensures.error },
  told_of_check request c.in-Err.error c.in-Err.ensures.memory,
)
