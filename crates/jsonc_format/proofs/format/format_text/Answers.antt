use Rattle.std.proofs.Common.{chars}
use Rattle.jsonc_text.specs.OptionsOf.{parse_options}
use Rattle.jsonc_format.proofs.Wholes.{pieces_given, memory_fault}
use Rattle.jsonc_format.proofs.format.format_text.Goals as goal

pub returns-clause-formatted : goal.returns-clause-formatted
returns-clause-formatted g c =
    let k = pieces_given (parse_options c.args.options.now) (chars c.args.text.now) c.in_ok-check_document.ensures.accepted in
    c.in-Ok.ensures.formatted k.0 k.1 k.2

pub returns-in_default-clause-fault : goal.returns-in_default-clause-fault
returns-in_default-clause-fault g c = memory_fault c.args.text.now c.utf8.text c.out_of_memory.result c.out_of_memory.ensures
