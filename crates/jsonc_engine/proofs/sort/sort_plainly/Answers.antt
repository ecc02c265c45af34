use Rattle.std.proofs.Common.{◌≡◌, OnOk, false, rules}
use Rattle.jsonc_engine.proofs.Changes.{ok_so}
use Rattle.jsonc_engine.proofs.Sorting.{sorts_by_name}
use Rattle.jsonc_engine.proofs.sort.sort_plainly.Goals as goal

pub returns-clause-sorted : goal.returns-clause-sorted
returns-clause-sorted g c =
    ok_so c.by.result (λ sorted. sorts_by_name _ _ c.args.document.now c.by.new.doc c.args.object false c.sort_properties.result.container c.sort_properties.result.groups c.args.document.now.tree.tree c.sort_properties.ensures.container c.sort_properties.ensures.groups
    sorted (λ d p q r at hp hq post. search rules)) c.by.ensures.sorted
