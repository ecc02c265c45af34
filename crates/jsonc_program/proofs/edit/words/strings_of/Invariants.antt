use Rattle.std.proofs.Common.{drop}
use Rattle.jsonc_program.proofs.EditNames.{NamedBefore}
use Rattle.jsonc_program.proofs.edit.words.strings_of.Given as goal

-- the names so far are what the values before the rest stand for
abbrev pub invariant-loop-value : goal.invariant-loop-value
invariant-loop-value g l = NamedBefore l.values l.names.items (drop l.value-index l.values)
