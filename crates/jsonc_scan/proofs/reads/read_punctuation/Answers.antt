use Rattle.jsonc_text.specs.Lexemes.{is_punctuation}
use Rattle.jsonc_text.proofs.Ascii.{ascii_no}
use Rattle.jsonc_text.proofs.CharacterSteps.{no_at_end, steps_ascii}
use Rattle.jsonc_scan.proofs.Reading.{punctuation_small}
use Rattle.jsonc_scan.proofs.reads.read_punctuation.Goals as goal

pub returns-then-start-bytes-clause-none : goal.returns-then-start-bytes-clause-none
returns-then-start-bytes-clause-none c = no_at_end is_punctuation _ _ (rw c.as_bytes-bytes.ensures.value at c.if-start-bytes.true)

pub returns-in_default-clause-none : goal.returns-in_default-clause-none
returns-in_default-clause-none c =
    let same = c.as_bytes-bytes.ensures.value in
    ascii_no is_punctuation punctuation_small _ _ c.utf8.text c.requires (rw same at c.if-start-bytes.false) (rw same at c.in_default.ensures.none)

pub returns-clause-found : goal.returns-clause-found
returns-clause-found c =
    let same = c.as_bytes-bytes.ensures.value in
    let found = rw same at c.in-Some.ensures.found in
    (_, found, steps_ascii _ _ c.utf8.text (rw same at c.if-start-bytes.false) (punctuation_small _ found.0))
