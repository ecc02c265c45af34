use Rattle.std.proofs.Common.{refl, ◌≡◌, true, false}
use Rattle.jsonc_scan.proofs.Words.{word_passed, not_passed}
use Rattle.jsonc_scan.proofs.WordFaults.{word_told, character_told}
use Rattle.jsonc_scan.proofs.word.word_end.Goals as goal

pub returns-then-ends_word-clause-found : goal.returns-then-ends_word-clause-found
returns-then-ends_word-clause-found c =
    let first = c.in-Some.ensures.found in
    let others = c.word_chars_end-end.ensures in
    word_passed _ _ _ _ _ first.1 first.2 first.3 others.boundary others.order others.chars (c.if-ends_word.ensures.0 refl)

pub returns-clause-none : goal.returns-clause-none
returns-clause-none c =
    let first = c.in-Some.ensures.found in
    let others = c.word_chars_end-end.ensures in
    not_passed _ _ _ _ _ first.2 others.chars others.all (λ ends. let both : false ≡ true = c.if-ends_word.ensures.1 ends in cc)

pub returns-in_default-clause-error : goal.returns-in_default-clause-error
returns-in_default-clause-error c =
    character_told _ _ _ c.utf8.text c.requires c.in_default.ensures.none c.fault_at.ensures.kind c.fault_at.ensures.next

pub returns-clause-error : goal.returns-clause-error
returns-clause-error c =
    let first = c.in-Some.ensures.found in
    let others = c.word_chars_end-end.ensures in
    word_told _ _ _ _ _ _ first.1 first.2 others.chars others.all (λ ends. let both : false ≡ true = c.if-ends_word.ensures.1 ends in cc) c.fault.ensures.error
