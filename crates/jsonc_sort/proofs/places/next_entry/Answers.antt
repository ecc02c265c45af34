use Rattle.std.proofs.Common.{◌+◌, ap, arith, ◌∙◌}
use Rattle.std.proofs.lemmas.List.{take_rest}
use Rattle.jsonc_tree.specs.Tree.{content_at}
use Rattle.jsonc_sort.specs.Places.{before_element}
use Rattle.jsonc_sort.proofs.EntriesOfRows.{last_there, next_is}
use Rattle.jsonc_sort.proofs.places.next_entry.Goals as goal

pub returns-then-element-row-clause-last : goal.returns-then-element-row-clause-last
returns-then-element-row-clause-last g c =
    let at = content_at c.args.tree.now.nodes in
    last_there at c.args.row.now c.args.from c.requires (omega (arith, c.before_element.ensures.count ∙ ap (before_element at) (take_rest c.args.row.now c.args.from)))

pub returns-clause-next : goal.returns-clause-next
returns-clause-next g c =
    let at = content_at c.args.tree.now.nodes in
    next_is at c.args.row.now c.args.from (c.args.from + c.before_element.result) c.args.groups c.args.pinned c.places_of.result (ap (λ k. c.args.from + k) (c.before_element.ensures.count ∙ ap (before_element at) (take_rest c.args.row.now c.args.from))) (omega arith) c.places_of.ensures
