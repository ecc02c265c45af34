use Rattle.std.proofs.Common.{◌≡◌, rules, subst, sym}
use Rattle.std.specs.Prelude.{IsErrAnd}
use Rattle.jsonc_text.specs.OptionsOf.{parse_options}
use Rattle.jsonc_engine.specs.Argument.{IsFaultOfArgument}
use Rattle.jsonc_engine.specs.Change.{IsTaskFor}
use Rattle.jsonc_engine.specs.Command.{request_of}
use Rattle.jsonc_engine.proofs.Arguments.{append_fault, append_task, check_task, drop_fault, drop_task, json_task, look_task, merge_task, patch_fault, patch_task, print_task, put_task, remove_task, set_fault, set_task, sort_task}
use Rattle.jsonc_engine.proofs.Changes.{err_by}
use Rattle.jsonc_engine.proofs.task.task_of.Goals as goal

pub returns-in_err-argument_of-in-Set-clause-refused : goal.returns-in_err-argument_of-in-Set-clause-refused
returns-in_err-argument_of-in-Set-clause-refused g c =
    let fault = c.in_err-argument_of-in-Set.field-0.0 in
    let told : IsErrAnd c.from_residual.result (λ told. told ≡ fault) = search rules in
    err_by (IsFaultOfArgument (parse_options c.args.options.now) (request_of c.args.command)) fault c.from_residual.result told
    (set_fault (parse_options c.args.options.now) c.args.command fault c.in-Set.name c.in-Set.json c.in-Set.is c.in_err-argument_of-in-Set.ensures.refused)

pub returns-in_err-argument_of-in-Append-clause-refused : goal.returns-in_err-argument_of-in-Append-clause-refused
returns-in_err-argument_of-in-Append-clause-refused g c =
    let fault = c.in_err-argument_of-in-Append.field-0.0 in
    let told : IsErrAnd c.from_residual-in_err-argument_of-in-Append.result (λ told. told ≡ fault) = search rules in
    err_by (IsFaultOfArgument (parse_options c.args.options.now) (request_of c.args.command)) fault c.from_residual-in_err-argument_of-in-Append.result told
    (append_fault (parse_options c.args.options.now) c.args.command fault c.in-Append.json c.in-Append.is c.in_err-argument_of-in-Append.ensures.refused)

pub returns-in_err-read_path-in-Drop-clause-refused : goal.returns-in_err-read_path-in-Drop-clause-refused
returns-in_err-read_path-in-Drop-clause-refused g c =
    let fault = c.in_err-read_path-in-Drop.field-0.0 in
    let told : IsErrAnd c.from_residual-in_err-read_path-in-Drop.result (λ told. told ≡ fault) = search rules in
    err_by (IsFaultOfArgument (parse_options c.args.options.now) (request_of c.args.command)) fault c.from_residual-in_err-read_path-in-Drop.result told
    (drop_fault (parse_options c.args.options.now) c.args.command fault c.in-Drop.names c.in-Drop.is c.in_err-read_path-in-Drop.ensures.refused)

pub returns-in_err-patch-in-Patch-clause-refused : goal.returns-in_err-patch-in-Patch-clause-refused
returns-in_err-patch-in-Patch-clause-refused g c =
    let fault = c.in_err-patch-in-Patch.field-0.0 in
    let told : IsErrAnd c.from_residual-in_err-patch-in-Patch.result (λ told. told ≡ fault) = search rules in
    err_by (IsFaultOfArgument (parse_options c.args.options.now) (request_of c.args.command)) fault c.from_residual-in_err-patch-in-Patch.result told
    (patch_fault (parse_options c.args.options.now) c.args.command fault c.in-Patch.text c.in-Patch.most c.in-Patch.is (c.in_err-patch-in-Patch.ensures.refused c.in-Patch.most))

pub returns-in-Check-clause-task : goal.returns-in-Check-clause-task
returns-in-Check-clause-task g c = check_task (parse_options c.args.options.now) c.args.command c.in-Check.is

pub returns-in-Print-clause-task : goal.returns-in-Print-clause-task
returns-in-Print-clause-task g c = print_task (parse_options c.args.options.now) c.args.command c.in-Print.is

pub returns-in_ok-argument_of-in-Set-clause-task : goal.returns-in_ok-argument_of-in-Set-clause-task
returns-in_ok-argument_of-in-Set-clause-task g c = subst (IsTaskFor (parse_options c.args.options.now) (request_of c.args.command)) (sym c.making.ensures) (set_task (parse_options c.args.options.now) c.args.command c.in-Set.name c.in-Set.json c.in_ok-argument_of-in-Set.field-0 c.in-Set.is c.in_ok-argument_of-in-Set.ensures.value)

pub returns-in_ok-argument_of-in-Append-clause-task : goal.returns-in_ok-argument_of-in-Append-clause-task
returns-in_ok-argument_of-in-Append-clause-task g c = subst (IsTaskFor (parse_options c.args.options.now) (request_of c.args.command)) (sym c.making-in-Append.ensures) (append_task (parse_options c.args.options.now) c.args.command c.in-Append.json c.in_ok-argument_of-in-Append.field-0 c.in-Append.is c.in_ok-argument_of-in-Append.ensures.value)

pub returns-in-Remove-clause-task : goal.returns-in-Remove-clause-task
returns-in-Remove-clause-task g c = subst (IsTaskFor (parse_options c.args.options.now) (request_of c.args.command)) (sym c.making-in-Remove.ensures) (remove_task (parse_options c.args.options.now) c.args.command c.in-Remove.name c.in-Remove.is)

pub returns-in-Sort-clause-task : goal.returns-in-Sort-clause-task
returns-in-Sort-clause-task g c = subst (IsTaskFor (parse_options c.args.options.now) (request_of c.args.command)) (sym c.making-in-Sort.ensures) (sort_task (parse_options c.args.options.now) c.args.command c.in-Sort.is)

pub returns-in_ok-look_of-in-Get-clause-task : goal.returns-in_ok-look_of-in-Get-clause-task
returns-in_ok-look_of-in-Get-clause-task g c = look_task (parse_options c.args.options.now) c.args.command c.in-Get.place c.in_ok-look_of-in-Get.field-0 c.in-Get.is (c.in_ok-look_of-in-Get.ensures.work (parse_options c.args.options.now))

pub returns-in_ok-put_of-in-Put-clause-task : goal.returns-in_ok-put_of-in-Put-clause-task
returns-in_ok-put_of-in-Put-clause-task g c = subst (IsTaskFor (parse_options c.args.options.now) (request_of c.args.command)) (sym c.making-in-Put.ensures) (put_task (parse_options c.args.options.now) c.args.command c.in-Put.names c.in-Put.json c.in_ok-put_of-in-Put.field-0 c.in-Put.is c.in_ok-put_of-in-Put.ensures.change)

pub returns-in_ok-read_path-in-Drop-clause-task : goal.returns-in_ok-read_path-in-Drop-clause-task
returns-in_ok-read_path-in-Drop-clause-task g c = subst (IsTaskFor (parse_options c.args.options.now) (request_of c.args.command)) (sym c.making-in-Drop.ensures) (drop_task (parse_options c.args.options.now) c.args.command c.in-Drop.names c.in_ok-read_path-in-Drop.field-0 c.in-Drop.is c.in_ok-read_path-in-Drop.ensures.names)

pub returns-in_ok-patch-in-Patch-clause-task : goal.returns-in_ok-patch-in-Patch-clause-task
returns-in_ok-patch-in-Patch-clause-task g c = patch_task (parse_options c.args.options.now) c.args.command c.in-Patch.text c.in-Patch.most c.in_ok-patch-in-Patch.patch c.in-Patch.is c.in_ok-patch-in-Patch.ensures.parsed

pub returns-in_ok-patch-in-Merge-clause-task : goal.returns-in_ok-patch-in-Merge-clause-task
returns-in_ok-patch-in-Merge-clause-task g c = merge_task (parse_options c.args.options.now) c.args.command c.in-Merge.text c.in_ok-patch-in-Merge.patch c.in-Merge.is c.in_ok-patch-in-Merge.ensures.parsed

pub returns-in-Json-clause-task : goal.returns-in-Json-clause-task
returns-in-Json-clause-task g c = json_task (parse_options c.args.options.now) c.args.command c.in-Json.is
