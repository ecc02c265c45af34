use Rattle.jsonc_files.specs.Order.{IsFree}
use Rattle.jsonc_files.specs.Steps.{Keeps}
use Rattle.jsonc_files.proofs.edit.create.Given as goal

abbrev pub invariant-loop-attempt : goal.invariant-loop-attempt
invariant-loop-attempt g l = record {
  free : IsFree (g.F.Folder.calls l.folder);
  keeps : Keeps (g.F.Folder.calls l.initial.folder) (g.F.Folder.calls l.folder);
}
