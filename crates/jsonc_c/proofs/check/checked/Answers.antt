use Rattle.std.proofs.Common.{IsUtf8, rules}
use Rattle.jsonc_c.proofs.check.checked.Goals as goal

pub returns-clause-accepted : goal.returns-clause-accepted
returns-clause-accepted c =
    let utf8 : IsUtf8 c.args.text.now = search rules in
    let read = c.in_ok-check_document.ensures.accepted in
    record { utf8 = utf8; value = read.0; document = read.1; within = read.2 }
