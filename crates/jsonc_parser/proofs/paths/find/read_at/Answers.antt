use Rattle.std.proofs.Common.{subst}
use Rattle.jsonc_parser.specs.paths.Found.{names_of, FindsWhatShown}
use Rattle.jsonc_cst.specs.Document.{nodes_of}
use Rattle.jsonc_parser.proofs.lemmas.paths.TakenValues.{read_result}
use Rattle.jsonc_parser.proofs.lemmas.paths.MemoryNeeded.{looked_up, something_wanted}
use Rattle.jsonc_parser.proofs.paths.find.read_at.Goals as goal

pub returns-in-Ok-Some-clause-read : goal.returns-in-Ok-Some-clause-read
returns-in-Ok-Some-clause-read g c =
    read_result c.args.doc.now c.in-Ok-Some.node (names_of c.args.names.now) c.to_value.result c.args.doc.now.tree.tree c.to_value.ensures.value
    (subst (FindsWhatShown c.args.doc.now (names_of c.args.names.now)) c.in-Ok-Some.field-0-is c.in-Ok-Some.ensures.found)

pub returns-in-Ok-Some-clause-oom_only_if : goal.returns-in-Ok-Some-clause-oom_only_if
returns-in-Ok-Some-clause-oom_only_if g c =
    something_wanted c.args.doc.now (names_of c.args.names.now) c.in-Ok-Some.node c.to_value.result (subst (FindsWhatShown c.args.doc.now (names_of c.args.names.now)) c.in-Ok-Some.field-0-is c.in-Ok-Some.ensures.found)

pub returns-in-Err-clause-oom_only_if : goal.returns-in-Err-clause-oom_only_if
returns-in-Err-clause-oom_only_if g c = looked_up (nodes_of c.args.doc.now) (names_of c.args.names.now) c.in-Err.ensures.oom_only_if
