use Rattle.jsonc_text.specs.OptionsOf.{parse_options}
use Rattle.jsonc_scan.proofs.Reading.{word_read, no_word}
use Rattle.jsonc_scan.proofs.NoNumbers.{err_any}
use Rattle.jsonc_scan.proofs.word.read_word.Goals as goal

pub returns-clause-found : goal.returns-clause-found
returns-clause-found c =
    word_read _ _ _ _ _ c.utf8.text c.requires.boundary c.range.ensures.value c.requires.keyword (λ a. (c.requires.name a).0) (λ a. (c.requires.name a).1) c.in_ok-end.ensures.found

pub returns-in_err-end-clause-none : goal.returns-in_err-end-clause-none
returns-in_err-end-clause-none c =
    err_any c.from_residual.result (no_word (parse_options c.args.options.now) c.args.text.now c.args.start c.in_err-end.ensures.none)
