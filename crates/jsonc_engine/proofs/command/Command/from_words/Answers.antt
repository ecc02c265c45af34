use Rattle.std.proofs.Common.{rules}
use Rattle.jsonc_engine.proofs.Words.{none_named}
use Rattle.jsonc_engine.proofs.command.Command.from_words.Goals as goal

pub returns-in-None : goal.returns-in-None
returns-in-None c =
    none_named c.args.words.now (search rules) (search rules) (search rules) (search rules) (search rules) (search rules) (search rules) (search rules) (search rules) (search rules) (search rules) (search rules)
    (search rules)

pub returns-in_default : goal.returns-in_default
returns-in_default c =
    none_named c.args.words.now (search rules) (search rules) (search rules) (search rules) (search rules) (search rules) (search rules) (search rules) (search rules) (search rules) (search rules) (search rules)
    (search rules)
