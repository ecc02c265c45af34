use Rattle.std.proofs.Common.{List, take}
use Rattle.jsonc_run.specs.Edits.{PlainEdit}
use Rattle.jsonc_parser.specs.Lists.{RunSteps}
use Rattle.jsonc_parser.proofs.cst.lists.make_all.Given as goal

abbrev pub invariant-loop-count : goal.invariant-loop-count
invariant-loop-count g l = (ops : List PlainEdit) × RunSteps g.C.Fn l.compare g.D.DocumentArg.same l.fn.doc (take l.count l.edits) ops l.doc
