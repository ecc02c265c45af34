use Rattle.jsonc_text.proofs.lemmas.string.Providers.{char_spans}
use Rattle.jsonc_scan.proofs.NumberFaults.{next_told}
use Rattle.jsonc_scan.proofs.faults.fault_at.Goals as goal

pub fault-requires-clause-spans : goal.fault-requires-clause-spans
fault-requires-clause-spans c =
    let read = c.char_end-end.ensures in
    char_spans _ _ _ c.utf8.text c.requires.spans.from read.boundary read.none read.some

pub returns-clause-next : goal.returns-clause-next
returns-clause-next c =
    let read = c.char_end-end.ensures in
    let told = c.fault.ensures.error in
    record { start = told.start; character = rw told.end (next_told _ _ _ read.none read.some) }
