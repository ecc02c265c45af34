use Rattle.std.proofs.Common.{string_bytes}
use Rattle.jsonc_c.proofs.Patching.{patched_so, stopped_so}
use Rattle.jsonc_c.proofs.patches.text_by.Goals as goal

pub returns-in-Err-clause-refused : goal.returns-in-Err-clause-refused
returns-in-Err-clause-refused c = λ o words text is fits shown.
    stopped_so o words text c.args.document shown c.args.fault.now c.tell_operation.new.fault c.requires.untold c.args.patch.now is fits c.in-Err.stopped c.tell_operation.result c.in-Err.ensures.stops
    c.tell_operation.ensures.status c.tell_operation.ensures.untold

pub returns-in-Ok-text-clause-patched : goal.returns-in-Ok-text-clause-patched
returns-in-Ok-text-clause-patched c = λ o words text is fits shown.
    patched_so o words text c.args.document shown c.args.fault.now c.args.fault.now c.requires.untold c.args.patch.now is fits c.apply.new.doc (string_bytes c.in-Ok-text.text) c.in-Ok.ensures.patched c.in-Ok-text.ensures.printed
