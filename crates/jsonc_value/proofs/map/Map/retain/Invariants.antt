use Rattle.jsonc_value.specs.Retained.{AnswersAt}
use Rattle.jsonc_value.proofs.RetainedEntries.{Kept}
use Rattle.jsonc_value.proofs.map.Map.retain.Given as goal

abbrev pub invariant-loop-place : goal.invariant-loop-place
invariant-loop-place g l = Kept (AnswersAt (g.F.Fn.post l.fn.keep)) l.initial.self l.self l.kept l.place
