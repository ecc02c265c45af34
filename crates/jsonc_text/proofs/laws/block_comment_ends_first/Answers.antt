use Rattle.jsonc_text.proofs.BlockComments.{block_inside, first_end, block_of}
use Rattle.jsonc_text.proofs.laws.block_comment_ends_first.Goals as goal

pub returns-clause-text : goal.returns-clause-text
returns-clause-text c = λ t r b. let i = block_inside b in (i.0, i.1)

pub returns-clause-first : goal.returns-clause-first
returns-clause-first c = λ s r. (first_end s r, block_of s r)
