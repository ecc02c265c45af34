use Rattle.jsonc_mends.proofs.Telling.{error_told, error_first}
use Rattle.jsonc_mends.proofs.told.told_of.Goals as goal

pub returns-clause-told : goal.returns-clause-told
returns-clause-told c =
    error_told c.args.text.now c.args.error.now c.kind.result.now c.range.result c.line_display.result c.column_display.result c.kind.ensures c.range.ensures c.line_display.ensures c.column_display.ensures c.requires.fault c.requires.kind

pub returns-clause-first : goal.returns-clause-first
returns-clause-first c = λ o h.
    error_first o c.args.text.now c.args.error.now c.kind.result.now c.range.result c.line_display.result c.column_display.result c.kind.ensures c.range.ensures c.requires.kind h
