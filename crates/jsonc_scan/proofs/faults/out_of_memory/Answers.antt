use Rattle.jsonc_text.proofs.FaultLemmas.{out_of_memory_is_fault}
use Rattle.jsonc_scan.proofs.faults.out_of_memory.Goals as goal

pub returns-clause-fault : goal.returns-clause-fault
returns-clause-fault c = out_of_memory_is_fault c.args.text.now c.out_of_memory.result c.utf8.text c.out_of_memory.ensures
