use Rattle.std.proofs.Common.{false, ◌<◌}
use Rattle.jsonc_files.specs.Calls.{found}
use Rattle.jsonc_files.specs.Edited.{IsMade, MadeNoFile}
use Rattle.jsonc_files.specs.Steps.{Keeps}
use Rattle.jsonc_files.proofs.edit.open_current.Given as goal

abbrev pub invariant-loop-attempt : goal.invariant-loop-attempt
invariant-loop-attempt g l = record {
  keeps : Keeps (g.F.Folder.calls l.initial.folder) (g.F.Folder.calls l.folder);
  nothing : MadeNoFile (g.F.Folder.calls l.initial.folder) → MadeNoFile (g.F.Folder.calls l.folder);
  replaced : 0 < l._attempt → IsMade (found false) (g.F.Folder.calls l.folder);
}
