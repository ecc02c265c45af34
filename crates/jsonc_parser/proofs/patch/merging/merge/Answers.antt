use Rattle.std.proofs.Common.{inl}
use Rattle.jsonc_layout.specs.input.Views.{plain}
use Rattle.jsonc_parser.proofs.lemmas.patch.Edited.{kept_same}
use Rattle.jsonc_parser.proofs.lemmas.patch.MergeChains.{merged_by_copy, stopped_by_copy, twice_in_patch}
use Rattle.jsonc_parser.proofs.patch.merging.merge.Goals as goal

pub returns-in-Err-clause-kept : goal.returns-in-Err-clause-kept
returns-in-Err-clause-kept g c = kept_same c.args.doc.now

pub returns-in-Err-clause-stops : goal.returns-in-Err-clause-stops
returns-in-Err-clause-stops g c = λ d shown fit. twice_in_patch (plain c.args.patch.now) d c.in-Err.fault c.in-Err.ensures.repeated

pub returns-in_default-clause-kept : goal.returns-in_default-clause-kept
returns-in_default-clause-kept g c = kept_same c.args.doc.now

pub returns-in_default-clause-stops : goal.returns-in_default-clause-stops
returns-in_default-clause-stops g c = λ d shown fit. tt

pub returns-in-Err-merge_whole-clause-kept : goal.returns-in-Err-merge_whole-clause-kept
returns-in-Err-merge_whole-clause-kept g c = kept_same c.args.doc.now

pub returns-in-Err-merge_whole-clause-stops : goal.returns-in-Err-merge_whole-clause-stops
returns-in-Err-merge_whole-clause-stops g c = stopped_by_copy c.args.doc.now c.in-Ok-try_clone.copy c.merge_whole.new.doc c.in-Ok-try_clone.ensures.nodes (plain c.args.patch.now) c.in-Err-merge_whole.fault c.in-Err-merge_whole.ensures.stops

pub returns-clause-merged : goal.returns-clause-merged
returns-clause-merged g c = merged_by_copy c.args.doc.now c.in-Ok-try_clone.copy c.merge_whole.new.doc c.in-Ok-try_clone.ensures.nodes (plain c.args.patch.now) c.in-Ok-merge_whole.ensures.merged
