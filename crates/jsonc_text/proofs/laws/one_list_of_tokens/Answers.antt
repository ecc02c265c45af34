use Rattle.jsonc_text.proofs.UniqueTokens.{tokens_unique, gaps_unique}
use Rattle.jsonc_text.proofs.laws.one_list_of_tokens.Goals as goal

pub returns-clause-tokens : goal.returns-clause-tokens
returns-clause-tokens c = λ o t ts us g h. tokens_unique g h

pub returns-clause-gaps : goal.returns-clause-gaps
returns-clause-gaps c = gaps_unique
