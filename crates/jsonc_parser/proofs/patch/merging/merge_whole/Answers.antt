use Rattle.std.proofs.Common.{◌≡◌, ◌∙◌, [], List, ap, subst, ℕ}
use Rattle.jsonc_edit.specs.Writing.{IsOfNumbers}
use Rattle.jsonc_layout.specs.input.Views.{plain}
use Rattle.jsonc_parser.specs.paths.Found.{names_of}
use Rattle.jsonc_parser.specs.patch.Merged.{MergesIn}
use Rattle.jsonc_parser.specs.patch.MergeSteps.{FailsToMerge, ReachesWhatShown}
use Rattle.jsonc_parser.specs.patch.Pointer.{tokens_of}
use Rattle.jsonc_parser.proofs.lemmas.patch.MergeChains.{merges_shown, stops_shown}
use Rattle.jsonc_parser.proofs.patch.merging.merge_whole.Goals as goal

pub returns-in-Ok-clause-merged : goal.returns-in-Ok-clause-merged
returns-in-Ok-clause-merged g c =
    let doc = c.args.doc.now in
    let p = plain c.args.patch.now in
    let none = c.from_tokens-pointer.ensures ∙ ap names_of c.new.ensures.items in
    merges_shown doc c.merge_value.new.doc p (subst (λ (l : List (List ℕ)). ReachesWhatShown doc (λ o. IsOfNumbers o p) (MergesIn l p) c.merge_value.new.doc) none c.in-Ok.ensures.merged)

pub returns-clause-stops : goal.returns-clause-stops
returns-clause-stops g c =
    let doc = c.args.doc.now in
    let p = plain c.args.patch.now in
    let none = c.from_tokens-pointer.ensures ∙ ap names_of c.new.ensures.items in
    stops_shown doc p c.in-Err.cause c.fault_of.result c.fault_of.ensures (subst (λ (l : List (List ℕ)). FailsToMerge doc l p c.in-Err.cause) none c.in-Err.ensures.fails)
