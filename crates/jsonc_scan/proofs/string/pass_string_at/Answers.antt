use Rattle.std.proofs.Common.{refl}
use Rattle.jsonc_scan.proofs.NoLexemes.{string_nothing}
use Rattle.jsonc_text.proofs.lemmas.string.QuotedStrings.{scanned_of_quoted}
use Rattle.jsonc_scan.proofs.WordFaults.{string_told}
use Rattle.jsonc_scan.proofs.string.pass_string_at.Goals as goal

pub returns-in-Ok-clause-found : goal.returns-in-Ok-clause-found
returns-in-Ok-clause-found c =
    let read = c.in-Ok.ensures in
    record { stands = scanned_of_quoted _ _ _ _ _ _ _ c.requires.quote.allowed read.found refl; escaped = read.escaped; plain = read.plain; inside = read.inside }

pub returns-in-Err-clause-none : goal.returns-in-Err-clause-none
returns-in-Err-clause-none c = string_nothing _ _ _ _ c.requires.quote c.in-Err.ensures.none

pub returns-in-Err-clause-fault : goal.returns-in-Err-clause-fault
returns-in-Err-clause-fault c = record { fault = c.string_error.ensures.fault; kind = λ e. c.in-Err.ensures.memory (c.string_error.ensures.memory.0 e) }

pub returns-in-Err-clause-error : goal.returns-in-Err-clause-error
returns-in-Err-clause-error c =
    let read = c.in-Err.ensures in
    string_told _ _ _ _ c.in-Err.fault _ c.requires.quote.allowed (read.error read.memory) (c.string_error.ensures.error read.memory)
