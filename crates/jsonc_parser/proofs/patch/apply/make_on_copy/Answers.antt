use Rattle.std.proofs.Common.{refl}
use Rattle.jsonc_parser.proofs.lemmas.patch.Chains.{not_copied, patched_by_copy, stopped_by_copy}
use Rattle.jsonc_parser.proofs.lemmas.patch.Edited.{kept_same}
use Rattle.jsonc_parser.proofs.patch.apply.make_on_copy.Goals as goal

pub returns-in_default-clause-kept : goal.returns-in_default-clause-kept
returns-in_default-clause-kept g c = kept_same c.args.doc.now

pub returns-in_default-clause-stops : goal.returns-in_default-clause-stops
returns-in_default-clause-stops g c = not_copied c.args.doc.now c.args.operations.now c.requires _ refl refl

pub returns-in-Err-clause-kept : goal.returns-in-Err-clause-kept
returns-in-Err-clause-kept g c = kept_same c.args.doc.now

pub returns-in-Err-clause-stops : goal.returns-in-Err-clause-stops
returns-in-Err-clause-stops g c = stopped_by_copy c.args.doc.now c.make_all.new.doc c.in-Ok.copy c.in-Ok.ensures.nodes c.args.operations.now c.in-Err.fault c.in-Err.ensures.stops

pub returns-clause-patched : goal.returns-clause-patched
returns-clause-patched g c = patched_by_copy c.args.doc.now c.make_all.new.doc c.in-Ok.copy c.in-Ok.ensures.nodes c.args.operations.now c.in-Ok-make_all.ensures.patched
