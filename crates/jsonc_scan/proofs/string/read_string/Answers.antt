use Rattle.std.proofs.Common.{refl}
use Rattle.jsonc_scan.proofs.NoLexemes.{string_nothing}
use Rattle.jsonc_text.proofs.lemmas.string.QuotedStrings.{scanned_of_quoted}
use Rattle.jsonc_scan.proofs.WordFaults.{string_told}
use Rattle.jsonc_scan.proofs.string.read_string.Goals as goal

pub returns-in-Err-clause-none : goal.returns-in-Err-clause-none
returns-in-Err-clause-none g c = λ k. string_nothing _ _ _ _ c.requires.quote (c.in-Err.ensures.none (λ e. k (c.string_error.ensures.memory.1 e)))

pub returns-in-Ok-clause-found : goal.returns-in-Ok-clause-found
returns-in-Ok-clause-found g c =
    let read = c.in-Ok.ensures in
    record { stands = scanned_of_quoted _ _ _ _ _ _ _ c.requires.quote.allowed read.found refl; lent = read.lent; escaped = read.escaped }

pub returns-in-Err-clause-error : goal.returns-in-Err-clause-error
returns-in-Err-clause-error g c = λ k.
    let wanted = c.string_error.ensures.memory.1 in
    string_told _ _ _ _ c.in-Err.fault _ c.requires.quote.allowed (c.in-Err.ensures.error (λ e. k (wanted e))) (c.string_error.ensures.error (λ e. k (wanted e)))
