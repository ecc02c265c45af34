use Rattle.jsonc_files.proofs.Edits.{created_keeps, is_renamed, given_up}
use Rattle.jsonc_files.proofs.edit.put.Goals as goal

pub returns-in_default-clause-ok : goal.returns-in_default-clause-ok
returns-in_default-clause-ok g c read before = is_renamed c.args.text.now _ _ _ read c.in_ok-create.ensures.ok c.in_default.ensures.ok before

pub returns-clause-err : goal.returns-clause-err
returns-clause-err g c read before =
    given_up c.remove.result _ _ read c.remove.ensures (c.in-Err.ensures.err read 1 (created_keeps _ _ read c.in_ok-create.ensures.ok before))
