use Rattle.std.proofs.Common.{inl}
use Rattle.jsonc_text.proofs.FaultLemmas.{out_of_memory_is_fault}
use Rattle.jsonc_view.proofs.parse.parse_to_view.Goals as goal

pub returns-then-is_long-clause-refused : goal.returns-then-is_long-clause-refused
returns-then-is_long-clause-refused g c = inl c.out_of_memory.ensures.kind

pub returns-then-is_long-clause-error : goal.returns-then-is_long-clause-error
returns-then-is_long-clause-error g c = inl c.out_of_memory.ensures.kind

pub returns-then-is_long-clause-fault : goal.returns-then-is_long-clause-fault
returns-then-is_long-clause-fault g c = out_of_memory_is_fault c.args.text.now c.out_of_memory.result c.utf8.text c.out_of_memory.ensures
