use Rattle.std.proofs.Common.{refl}
use Rattle.jsonc_scan.proofs.Reading.{line_read, block_read, lone_slash, open_block}
use Rattle.std.proofs.lemmas.Str.{IsCharBoundary-end}
use Rattle.jsonc_scan.proofs.WordFaults.{slash_told, block_told}
use Rattle.jsonc_scan.proofs.comment.read_comment.Goals as goal

pub returns-then-has_byte-clause-found : goal.returns-then-has_byte-clause-found
returns-then-has_byte-clause-found c = λ o.
    line_read o _ _ _ _ c.utf8.text c.requires.slash (c.if-has_byte.ensures.here refl) c.stop_place-end.ensures.passed c.stop_place-end.ensures.stops c.range.ensures.value

pub returns-clause-found : goal.returns-clause-found
returns-clause-found c = λ o.
    block_read o _ _ _ _ c.utf8.text c.requires.slash (c.if-not-has_byte.ensures.here refl) c.in-Some.ensures.found c.range-2.ensures.value

pub fault-requires-in_default-clause-spans : goal.fault-requires-in_default-clause-spans
fault-requires-in_default-clause-spans c = record { from = c.requires.boundary; to = IsCharBoundary-end _; order = c.requires.boundary.0 }

pub returns-then-not-has_byte-clause-none : goal.returns-then-not-has_byte-clause-none
returns-then-not-has_byte-clause-none c =
    lone_slash _ _ c.requires.slash (c.if-has_byte.ensures.other refl) (c.if-not-has_byte.ensures.other refl)

pub returns-in_default-clause-none : goal.returns-in_default-clause-none
returns-in_default-clause-none c =
    open_block _ _ c.requires.slash (c.if-not-has_byte.ensures.here refl) c.in_default.ensures.none

pub returns-then-not-has_byte-clause-error : goal.returns-then-not-has_byte-clause-error
returns-then-not-has_byte-clause-error c =
    slash_told _ _ _ c.requires.slash (c.if-has_byte.ensures.other refl) (c.if-not-has_byte.ensures.other refl) c.fault.ensures.error

pub returns-in_default-clause-error : goal.returns-in_default-clause-error
returns-in_default-clause-error c =
    block_told _ _ _ c.requires.slash (c.if-not-has_byte.ensures.here refl) c.in_default.ensures.none c.fault-in_default.ensures.error
