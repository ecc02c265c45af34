use Rattle.jsonc_c.specs.Options.{options_of}
use Rattle.jsonc_c.proofs.Patching.{unopened_finds_none}
use Rattle.jsonc_c.proofs.patches.found.Goals as goal

pub returns-in-Err-clause-refused : goal.returns-in-Err-clause-refused
returns-in-Err-clause-refused c = unopened_finds_none c.in-Err.ensures.refused

pub returns-in-Err-value_at-clause-refused : goal.returns-in-Err-value_at-clause-refused
returns-in-Err-value_at-clause-refused c = c.in-Err-value_at.ensures.refused (options_of c.args.options) c.args.pointer.now c.args.text.now c.in-Ok.ensures.pointer c.in-Ok.ensures.document
