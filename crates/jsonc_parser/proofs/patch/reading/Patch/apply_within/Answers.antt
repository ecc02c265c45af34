use Rattle.std.proofs.Common.{◌∙◌, List, OnOk, subst, sym}
use Rattle.jsonc_parser.specs.patch.Applied.{PatchesWhatShown}
use Rattle.jsonc_parser.specs.patch.Patches.{operations_in}
use Rattle.jsonc_parser.specs.declared.patch.operation.Operation.{Operation}
use Rattle.jsonc_parser.proofs.lemmas.patch.Chains.{no_rest, patched_by_none}
use Rattle.jsonc_parser.proofs.lemmas.patch.Within.{within_none}
use Rattle.jsonc_parser.proofs.patch.reading.Patch.apply_within.Goals as goal

pub returns-then-is_empty-clause-patched : goal.returns-then-is_empty-clause-patched
returns-then-is_empty-clause-patched g c =
    patched_by_none c.args.doc.now c.args.doc.now (operations_in c.args.self.now) (sym c.operations-operations.ensures ∙ no_rest c.operations-operations.result.now c.is_empty.result c.is_empty.ensures c.if-is_empty.true)

pub returns-then-is_empty-clause-within : goal.returns-then-is_empty-clause-within
returns-then-is_empty-clause-within g c =
    within_none c.args.bytes c.args.doc.now (operations_in c.args.self.now) (sym c.operations-operations.ensures ∙ no_rest c.operations-operations.result.now c.is_empty.result c.is_empty.ensures c.if-is_empty.true)

pub returns-clause-patched : goal.returns-clause-patched
returns-clause-patched g c =
    subst (λ (l : List (Operation g.row.A.Denot)). OnOk c.make_on_copy.result (PatchesWhatShown c.args.doc.now l c.make_on_copy.new.doc)) c.operations-operations.ensures c.make_on_copy.ensures.patched
