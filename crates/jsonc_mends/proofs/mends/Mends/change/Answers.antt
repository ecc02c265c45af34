use Rattle.jsonc_mends.proofs.Apart.{in_any}
use Rattle.jsonc_mends.proofs.mends.Mends.change.Goals as goal

pub returns-in_err-new_text-clause-none : goal.returns-in_err-new_text-clause-none
returns-in_err-new_text-clause-none g c =
    λ o bytes h. in_any c.from_residual-in_err-new_text.result (c.in_err-new_text.ensures.none o bytes h)
