use Rattle.std.proofs.Common.{IfErr, IfOk, subst}
use Rattle.jsonc_cst.specs.Document.{nodes_of, printed_of}
use Rattle.jsonc_engine.specs.Change.{IsWorkFor}
use Rattle.jsonc_engine.specs.Fault.{IsFaultOn}
use Rattle.jsonc_engine.specs.Output.{IsLeft, output_bytes}
use Rattle.jsonc_engine.proofs.Changes.{change_of, find_so, get_told, got_by, merge_so, patch_so}
use Rattle.jsonc_engine.proofs.engine.outcome_of.Goals as goal

pub returns-in-Make-clause-left : goal.returns-in-Make-clause-left
returns-in-Make-clause-left g c = λ o request is sound laid within.
    c.changed.ensures.left o request (change_of o request c.in-Make.change (subst (IsWorkFor o request) c.in-Make.is is)) sound laid within

pub returns-in-Make-clause-refused : goal.returns-in-Make-clause-refused
returns-in-Make-clause-refused g c = λ o request is sound. c.changed.ensures.refused o request (change_of o request c.in-Make.change (subst (IsWorkFor o request) c.in-Make.is is)) sound

pub returns-in-Get-clause-left : goal.returns-in-Get-clause-left
returns-in-Get-clause-left g c = λ o request is sound laid within.
    got_by o request (nodes_of c.args.document) c.in-Get.names (subst (IsWorkFor o request) c.in-Get.is is) c.deref.result.now c.deref.ensures.value sound c.get_setting.result (c.get_setting.ensures.text o)

pub returns-in-Get-clause-refused : goal.returns-in-Get-clause-refused
returns-in-Get-clause-refused g c = λ o request is sound.
    get_told o request (nodes_of c.args.document) c.in-Get.names (subst (IsWorkFor o request) c.in-Get.is is) c.deref.result.now c.deref.ensures.value c.get_setting.result (c.get_setting.ensures.error o sound)

pub returns-in-Find-clause-left : goal.returns-in-Find-clause-left
returns-in-Find-clause-left g c = λ o request is sound laid within.
    find_so o (λ r. IfOk c.find_value.result (λ output. IsLeft g.row.A.Denot o r (printed_of c.args.document) (output_bytes output))) request c.in-Find.pointer (subst (IsWorkFor o request) c.in-Find.is is)
    (λ text pointer. c.find_value.ensures.found o text pointer sound)

pub returns-in-Find-clause-refused : goal.returns-in-Find-clause-refused
returns-in-Find-clause-refused g c = λ o request is sound.
    find_so o (λ r. IfErr c.find_value.result (IsFaultOn o r (printed_of c.args.document))) request c.in-Find.pointer (subst (IsWorkFor o request) c.in-Find.is is)
    (λ text pointer. c.find_value.ensures.error o text pointer sound)

pub returns-in-Apply-clause-left : goal.returns-in-Apply-clause-left
returns-in-Apply-clause-left g c = λ o request is sound laid within.
    patch_so o (λ r. IfOk c.patched.result (λ output. IsLeft g.row.A.Denot o r (printed_of c.args.document) (output_bytes output))) request c.in-Apply.patch c.in-Apply.most (subst (IsWorkFor o request) c.in-Apply.is is)
    (λ text read. c.patched.ensures.made o text read sound within)

pub returns-in-Apply-clause-refused : goal.returns-in-Apply-clause-refused
returns-in-Apply-clause-refused g c = λ o request is sound.
    patch_so o (λ r. IfErr c.patched.result (IsFaultOn o r (printed_of c.args.document))) request c.in-Apply.patch c.in-Apply.most (subst (IsWorkFor o request) c.in-Apply.is is)
    (λ text read. c.patched.ensures.refused o text read sound)

pub returns-in-Merge-clause-left : goal.returns-in-Merge-clause-left
returns-in-Merge-clause-left g c = λ o request is sound laid within.
    merge_so o (λ r. IfOk c.merged.result (λ output. IsLeft g.row.A.Denot o r (printed_of c.args.document) (output_bytes output))) request c.in-Merge.patch (subst (IsWorkFor o request) c.in-Merge.is is)
    (λ text read. c.merged.ensures.made o text read sound within)

pub returns-in-Merge-clause-refused : goal.returns-in-Merge-clause-refused
returns-in-Merge-clause-refused g c = λ o request is sound.
    merge_so o (λ r. IfErr c.merged.result (IsFaultOn o r (printed_of c.args.document))) request c.in-Merge.patch (subst (IsWorkFor o request) c.in-Merge.is is)
    (λ text read. c.merged.ensures.refused o text read sound)
