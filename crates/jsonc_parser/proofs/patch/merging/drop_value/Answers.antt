use Rattle.std.proofs.Common.{subst}
use Rattle.jsonc_parser.specs.patch.Applied.{FailsWhatShown}
use Rattle.jsonc_parser.specs.patch.Operations as value
use Rattle.jsonc_parser.specs.patch.Pointer.{tokens_of}
use Rattle.jsonc_parser.specs.declared.patch.making.PatchCause.{PatchCause}
use Rattle.jsonc_parser.proofs.lemmas.patch.MergeChains.{drops_none, drops_one}
use Rattle.jsonc_parser.proofs.patch.merging.drop_value.Goals as goal

pub returns-in-Ok-clause-dropped : goal.returns-in-Ok-clause-dropped
returns-in-Ok-clause-dropped g c = drops_one c.args.doc.now c.remove.new.doc (tokens_of c.args.pointer.now) c.in-Ok.ensures.made

pub returns-in-Err-NoTarget-clause-dropped : goal.returns-in-Err-NoTarget-clause-dropped
returns-in-Err-NoTarget-clause-dropped g c =
    drops_none c.args.doc.now c.remove.new.doc (tokens_of c.args.pointer.now) c.in-Err-NoTarget.ensures.kept.tree
    (subst (λ (k : PatchCause g.row.A.Denot). FailsWhatShown c.args.doc.now (value.remove (tokens_of c.args.pointer.now)) k) c.in-Err-NoTarget.field-0-is c.in-Err-NoTarget.ensures.fails)
