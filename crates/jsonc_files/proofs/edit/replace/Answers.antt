use Rattle.std.proofs.Common.{Some, inl, ◌∙◌}
use Rattle.jsonc_files.proofs.Edits.{at_start, has_before, is_new, folder_synced, on_disk, has_new, text_new, agreed_new, made_of, at_any_moment, of_some}
use Rattle.jsonc_files.proofs.edit.replace.Goals as goal

-- the new file could not be put in the place of the old one
pub returns-in-Err-put-clause-any_moment : goal.returns-in-Err-put-clause-any_moment
returns-in-Err-put-clause-any_moment g c before text agrees left =
    let read = c.in-Ok.ensures.ok (at_start _ c.requires.fresh) in
    let up = c.in-Err-put.ensures.err (Some c.in-Ok.old.items) read in
    inl (up.before.left before text left)

pub returns-in-Err-put-clause-fault : goal.returns-in-Err-put-clause-fault
returns-in-Err-put-clause-fault g c before agrees =
    let read = c.in-Ok.ensures.ok (at_start _ c.requires.fresh) in
    let up = c.in-Err-put.ensures.err (Some c.in-Ok.old.items) read in
    has_before _ _ _ before up.before

pub returns-in-Err-put-clause-alone : goal.returns-in-Err-put-clause-alone
returns-in-Err-put-clause-alone g c =
    let read = c.in-Ok.ensures.ok (at_start _ c.requires.fresh) in
    let up = c.in-Err-put.ensures.err (Some c.in-Ok.old.items) read in
    up.alone

-- it was, and the folder was synchronized
pub returns-in-Ok-sync_folder-clause-any_moment : goal.returns-in-Ok-sync_folder-clause-any_moment
returns-in-Ok-sync_folder-clause-any_moment g c before text agrees left =
    let read = c.in-Ok.ensures.ok (at_start _ c.requires.fresh) in
    let made = of_some c.in-Ok-Some.field-0 c.in-Ok-Some.new (g.C.Change.makes c.args.change.now c.deref.result.now c.deref.result.now) (λ n. g.C.Change.makes c.args.change.now c.deref.result.now n.items) c.in-Ok-Some.field-0-is c.in-Ok-Some.ensures in
    let new = is_new _ _ _ (c.in_default.ensures.ok (Some c.in-Ok.old.items) read) in
    let now = folder_synced c.sync_folder.result _ _ _ _ c.sync_folder.ensures new in
    at_any_moment (g.C.Change.makes c.args.change.now) _ _ _ _ before text c.deref.ensures.value c.deref-2.ensures.value (agreed_new _ _ _ before now agrees) made (now.left before text left)

pub returns-in-Ok-sync_folder-clause-done : goal.returns-in-Ok-sync_folder-clause-done
returns-in-Ok-sync_folder-clause-done g c before agrees =
    let read = c.in-Ok.ensures.ok (at_start _ c.requires.fresh) in
    let made = of_some c.in-Ok-Some.field-0 c.in-Ok-Some.new (g.C.Change.makes c.args.change.now c.deref.result.now c.deref.result.now) (λ n. g.C.Change.makes c.args.change.now c.deref.result.now n.items) c.in-Ok-Some.field-0-is c.in-Ok-Some.ensures in
    let new = is_new _ _ _ (c.in_default.ensures.ok (Some c.in-Ok.old.items) read) in
    let now = folder_synced c.sync_folder.result _ _ _ _ c.sync_folder.ensures new in
    record {
      text = c.deref-2.result.now;
      made = made_of (g.C.Change.makes c.args.change.now) _ _ _ _ before c.deref.ensures.value c.deref-2.ensures.value (agreed_new _ _ _ before now agrees) made;
      has = has_new _ _ _ before now (on_disk _ _ _ _ c.in-Ok-sync_folder.ensures new);
    }

pub returns-in-Ok-sync_folder-clause-alone : goal.returns-in-Ok-sync_folder-clause-alone
returns-in-Ok-sync_folder-clause-alone g c =
    let read = c.in-Ok.ensures.ok (at_start _ c.requires.fresh) in
    let new = is_new _ _ _ (c.in_default.ensures.ok (Some c.in-Ok.old.items) read) in
    let now = folder_synced c.sync_folder.result _ _ _ _ c.sync_folder.ensures new in
    inl now.others

-- only the folder was not
pub returns-clause-any_moment : goal.returns-clause-any_moment
returns-clause-any_moment g c before text agrees left =
    let read = c.in-Ok.ensures.ok (at_start _ c.requires.fresh) in
    let made = of_some c.in-Ok-Some.field-0 c.in-Ok-Some.new (g.C.Change.makes c.args.change.now c.deref.result.now c.deref.result.now) (λ n. g.C.Change.makes c.args.change.now c.deref.result.now n.items) c.in-Ok-Some.field-0-is c.in-Ok-Some.ensures in
    let new = is_new _ _ _ (c.in_default.ensures.ok (Some c.in-Ok.old.items) read) in
    let now = folder_synced c.sync_folder.result _ _ _ _ c.sync_folder.ensures new in
    at_any_moment (g.C.Change.makes c.args.change.now) _ _ _ _ before text c.deref.ensures.value c.deref-2.ensures.value (agreed_new _ _ _ before now agrees) made (now.left before text left)

pub returns-clause-fault : goal.returns-clause-fault
returns-clause-fault g c before agrees =
    let read = c.in-Ok.ensures.ok (at_start _ c.requires.fresh) in
    let made = of_some c.in-Ok-Some.field-0 c.in-Ok-Some.new (g.C.Change.makes c.args.change.now c.deref.result.now c.deref.result.now) (λ n. g.C.Change.makes c.args.change.now c.deref.result.now n.items) c.in-Ok-Some.field-0-is c.in-Ok-Some.ensures in
    let new = is_new _ _ _ (c.in_default.ensures.ok (Some c.in-Ok.old.items) read) in
    let now = folder_synced c.sync_folder.result _ _ _ _ c.sync_folder.ensures new in
    made_of (g.C.Change.makes c.args.change.now) _ _ _ _ before c.deref.ensures.value (text_new _ _ _ before now ∙ c.deref-2.ensures.value) (agreed_new _ _ _ before now agrees) made

pub returns-clause-alone : goal.returns-clause-alone
returns-clause-alone g c =
    let read = c.in-Ok.ensures.ok (at_start _ c.requires.fresh) in
    let new = is_new _ _ _ (c.in_default.ensures.ok (Some c.in-Ok.old.items) read) in
    let now = folder_synced c.sync_folder.result _ _ _ _ c.sync_folder.ensures new in
    inl now.others
