use Rattle.jsonc_edit.proofs.lemmas.multiline.LineEnds.{has_end, has_its_brackets, stays_spread}
use Rattle.jsonc_edit.proofs.multiline.laws.spread_containers_stay_spread.Goals as goal

pub returns-clause-line_end : goal.returns-clause-line_end
returns-clause-line_end c = has_end

pub returns-clause-once : goal.returns-clause-once
returns-clause-once c = stays_spread

pub returns-clause-brackets : goal.returns-clause-brackets
returns-clause-brackets c = has_its_brackets
