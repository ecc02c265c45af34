use Rattle.jsonc_insert.proofs.lemmas.named.Writing.{wants_memory, writes_named}
use Rattle.jsonc_insert.proofs.named.laws.named_values_are_written.Goals as goal

pub returns-clause-written : goal.returns-clause-written
returns-clause-written c = writes_named

pub returns-clause-memory : goal.returns-clause-memory
returns-clause-memory c = wants_memory
