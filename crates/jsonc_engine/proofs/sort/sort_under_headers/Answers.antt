use Rattle.std.proofs.Common.{◌≡◌, ◌∙◌, OnOk, rules, true}
use Rattle.jsonc_engine.proofs.Changes.{ok_so}
use Rattle.jsonc_engine.proofs.Sorting.{sorts_by_name}
use Rattle.jsonc_engine.proofs.sort.sort_under_headers.Goals as goal

pub returns-clause-sorted : goal.returns-clause-sorted
returns-clause-sorted g c =
    ok_so c.by.result (λ sorted. sorts_by_name _ _ c.args.document.now c.by.new.doc c.args.object true c.keep_headers.result.container c.keep_headers.result.groups c.args.document.now.tree.tree (c.keep_headers.ensures.container ∙ c.sort_properties.ensures.container)
    (c.keep_headers.ensures.groups ∙ c.sort_properties.ensures.groups) sorted (λ d p q r at hp hq post. search rules)) c.by.ensures.sorted
