use Rattle.jsonc_files.proofs.Edits.{filled_keeps, keeps_both}
use Rattle.jsonc_files.proofs.edit.fill_and_rename.Goals as goal

pub take_name-requires : goal.take_name-requires
take_name-requires g c =
    (c.args.text.now, record { first = c.requires.0; made = g.F.Folder.calls c.args.folder.now; created = c.requires.1; filled = c.in_ok-fill.ensures.ok })

pub returns-clause-err : goal.returns-clause-err
returns-clause-err g c =
    keeps_both c.take_name.result _ _ _ (filled_keeps c.args.text.now _ _ c.in_ok-fill.ensures.ok) c.take_name.ensures.err
