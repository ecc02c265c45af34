use Rattle.jsonc_program.specs.edit.Sorting.{SortsWhatShown}
use Rattle.jsonc_program.proofs.edit.sort.sort_objects.Given as goal

-- the objects so far have been sorted
abbrev pub invariant-loop-object : goal.invariant-loop-object
invariant-loop-object g l = SortsWhatShown l.fn.document l.document
