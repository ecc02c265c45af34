use Rattle.jsonc_insert.proofs.lemmas.elements.Containers.{has_its_brackets, wants_memory_alone}
use Rattle.jsonc_insert.proofs.elements.laws.arrays_have_their_brackets.Goals as goal

pub returns-clause-brackets : goal.returns-clause-brackets
returns-clause-brackets c = has_its_brackets

pub returns-clause-memory : goal.returns-clause-memory
returns-clause-memory c = wants_memory_alone
