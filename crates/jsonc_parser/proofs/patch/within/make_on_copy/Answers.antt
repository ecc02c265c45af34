use Rattle.std.proofs.Common.{refl}
use Rattle.jsonc_parser.proofs.lemmas.patch.Edited.{kept_same}
use Rattle.jsonc_parser.proofs.lemmas.patch.Within.{not_copied_within, patches_within, stopped_within_copy, within_by_copy}
use Rattle.jsonc_parser.proofs.patch.within.make_on_copy.Goals as goal

pub returns-in_default-clause-kept : goal.returns-in_default-clause-kept
returns-in_default-clause-kept g c = kept_same c.args.doc.now

pub returns-in_default-clause-stops : goal.returns-in_default-clause-stops
returns-in_default-clause-stops g c = not_copied_within c.args.bytes c.args.doc.now c.args.operations.now c.requires _ refl refl

pub returns-in-Err-clause-kept : goal.returns-in-Err-clause-kept
returns-in-Err-clause-kept g c = kept_same c.args.doc.now

pub returns-in-Err-clause-stops : goal.returns-in-Err-clause-stops
returns-in-Err-clause-stops g c = stopped_within_copy c.args.bytes c.args.doc.now c.in-Ok.copy c.in-Ok.ensures.nodes c.args.operations.now c.in-Err.fault c.in-Err.ensures.stops

pub returns-clause-within : goal.returns-clause-within
returns-clause-within g c = within_by_copy c.args.bytes c.args.doc.now c.in-Ok.copy c.in-Ok.ensures.nodes c.args.operations.now c.make_all.new.doc c.requires c.in-Ok-make_all.ensures.within

pub returns-clause-patched : goal.returns-clause-patched
returns-clause-patched g c = patches_within c.args.bytes (within_by_copy c.args.bytes c.args.doc.now c.in-Ok.copy c.in-Ok.ensures.nodes c.args.operations.now c.make_all.new.doc c.requires c.in-Ok-make_all.ensures.within)
