use Rattle.std.proofs.Common.{sym, true≢false, ◌∙◌}
use Rattle.jsonc_engine.proofs.json.is_refused_number.Goals as goal

pub returns-then-is_colon-clause-other : goal.returns-then-is_colon-clause-other
returns-then-is_colon-clause-other c = λ e n f. true≢false (c.if-is_colon.ensures ∙ n)

pub returns-clause-value : goal.returns-clause-value
returns-clause-value c = λ e. sym c.if-is_colon.ensures

pub returns-clause-non_finite : goal.returns-clause-non_finite
returns-clause-non_finite c = λ e. c.is_non_finite.ensures.0 e

pub returns-clause-other : goal.returns-clause-other
returns-clause-other c = λ e n f. true≢false (sym (c.is_non_finite.ensures.1 f) ∙ e)
