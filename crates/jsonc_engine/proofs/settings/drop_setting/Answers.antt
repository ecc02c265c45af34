use Rattle.jsonc_cst.specs.Document.{nodes_of}
use Rattle.jsonc_parser.specs.paths.Found.{names_of}
use Rattle.jsonc_engine.proofs.SettingsShown.{drops_setting, memory_dropping}
use Rattle.jsonc_engine.proofs.settings.drop_setting.Goals as goal

pub returns-in-Ok-clause-dropped : goal.returns-in-Ok-clause-dropped
returns-in-Ok-clause-dropped g c = λ o sound.
    drops_setting o (nodes_of c.args.document.now) sound (names_of c.args.names.now) (nodes_of c.remove_at.new.doc) c.in-Ok.field-0 c.in-Ok.ensures.dropped

pub returns-in-Err-clause-error : goal.returns-in-Err-clause-error
returns-in-Err-clause-error g c = λ o sound.
    memory_dropping o (nodes_of c.args.document.now) sound g.row.A.Denot (names_of c.args.names.now) c.in-Err.error c.in-Err.ensures.error c.in-Err.ensures.oom_only_if
