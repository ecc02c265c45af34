use Rattle.std.proofs.Common.{subst}
use Rattle.jsonc_layout.specs.input.Views.{plain}
use Rattle.jsonc_parser.specs.patch.Merged.{MergeStopsWhatShown}
use Rattle.jsonc_engine.proofs.Patches.{merge_deep, merge_memory, merged, met_twice}
use Rattle.jsonc_engine.proofs.patching.merged.Goals as goal

pub returns-in-Ok-clause-made : goal.returns-in-Ok-clause-made
returns-in-Ok-clause-made g c = λ o text read sound small. merged o c.args.document sound text (plain c.args.patch.now) read small c.merge.new.doc c.in-Ok.ensures.merged

pub returns-in-Err-RepeatedName-clause-refused : goal.returns-in-Err-RepeatedName-clause-refused
returns-in-Err-RepeatedName-clause-refused g c = λ o text read sound.
    let p = plain c.args.patch.now in
    met_twice o c.args.document sound text p read c.in-Err-RepeatedName.name (subst (MergeStopsWhatShown c.args.document p) c.in-Err-RepeatedName.field-0-is c.in-Err-RepeatedName.ensures.stops)

pub returns-in-Err-NestingDepthExceeded-clause-refused : goal.returns-in-Err-NestingDepthExceeded-clause-refused
returns-in-Err-NestingDepthExceeded-clause-refused g c = λ o text read sound. merge_deep o c.args.document sound text (plain c.args.patch.now) read

pub returns-clause-refused : goal.returns-clause-refused
returns-clause-refused g c = λ o text read sound. merge_memory o c.args.document sound text (plain c.args.patch.now) read
