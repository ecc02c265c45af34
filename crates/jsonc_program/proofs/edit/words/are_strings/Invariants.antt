use Rattle.std.proofs.Common.{drop}
use Rattle.jsonc_program.proofs.EditNames.{StringsBefore}
use Rattle.jsonc_program.proofs.edit.words.are_strings.Given as goal

-- the values so far are strings
abbrev pub invariant-loop-value : goal.invariant-loop-value
invariant-loop-value g l = StringsBefore l.values (drop l.value-index l.values)
