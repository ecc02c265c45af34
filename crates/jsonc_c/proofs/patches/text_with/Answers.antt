use Rattle.std.proofs.Common.{refl, string_bytes, subst}
use Rattle.jsonc_layout.specs.input.Views.{plain}
use Rattle.jsonc_parser.specs.patch.Merged.{MergeStopsWhatShown}
use Rattle.jsonc_c.specs.Patches.{IsUnmerged}
use Rattle.jsonc_c.proofs.Patching.{merged_so, repeated_so}
use Rattle.jsonc_c.proofs.patches.text_with.Goals as goal

pub returns-in-Err-RepeatedName-clause-refused : goal.returns-in-Err-RepeatedName-clause-refused
returns-in-Err-RepeatedName-clause-refused c = λ o words text is fits shown.
    repeated_so o words text c.args.document shown c.args.fault.now c.tell_name.new.fault c.requires.untold (plain c.args.patch.now) is fits c.in-Err-RepeatedName.name c.tell_name.result
    (subst (MergeStopsWhatShown c.args.document (plain c.args.patch.now)) c.in-Err-RepeatedName.field-0-is c.in-Err-RepeatedName.ensures.stops) c.tell_name.ensures.status c.tell_name.ensures.untold

pub returns-in-Err-OutOfMemory-clause-refused : goal.returns-in-Err-OutOfMemory-clause-refused
returns-in-Err-OutOfMemory-clause-refused c = λ o words text is fits shown. IsUnmerged.for_memory refl c.requires.untold

pub returns-in-Ok-text-clause-merged : goal.returns-in-Ok-text-clause-merged
returns-in-Ok-text-clause-merged c = λ o words text is fits shown.
    merged_so o words text c.args.document shown c.args.fault.now c.args.fault.now c.requires.untold (plain c.args.patch.now) is fits c.merge.new.doc (string_bytes c.in-Ok-text.text) c.in-Ok.ensures.merged c.in-Ok-text.ensures.printed

pub returns-in-Err-NestingDepthExceeded-clause-refused : goal.returns-in-Err-NestingDepthExceeded-clause-refused
returns-in-Err-NestingDepthExceeded-clause-refused c = λ o words text is fits shown. IsUnmerged.for_depth refl c.requires.untold
