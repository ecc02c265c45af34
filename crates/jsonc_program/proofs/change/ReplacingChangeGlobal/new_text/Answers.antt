use Rattle.jsonc_text.specs.OptionsOf.{parse_options}
use Rattle.jsonc_engine.specs.Command.{request_of}
use Rattle.jsonc_program.proofs.Changes.{refused_behind}
use Rattle.jsonc_program.proofs.change.ReplacingChangeGlobal.new_text.Goals as goal

pub returns : goal.returns
returns c = refused_behind (parse_options c.args.self.now.options) (request_of c.args.self.now.command) c.args.old.now c.split_mark.result.1.now
    c.split_mark.ensures.rest c.in-Err.fault c.in-Err.ensures.refused
