use Rattle.std.proofs.Common.{◌≡◌, ◌-◌, ℕ, List, ap, length, take, drop, subst, sym, ◌∙◌}
use Rattle.jsonc_tree.specs.Tree.{children_at, content_at}
use Rattle.jsonc_edit.specs.multiline.Lines.{between}
use Rattle.jsonc_sort.specs.Places.{AreEntries}
use Rattle.jsonc_sort.specs.Rearranged.{headers_of}
use Rattle.jsonc_sort.proofs.SortedRow.{between_read, has_both, order_of, sort_is_planned}
use Rattle.jsonc_sort.proofs.order.sorted_row.Goals as goal

pub plan_row-requires-clause-order : goal.plan_row-requires-clause-order
plan_row-requires-clause-order g c =
    let ns = c.args.tree.now.nodes in
    let h = headers_of c.args.pinned.now c.args.groups in
    let kids : List ℕ = children_at ns c.args.container in
    let xs : List ℕ = take (c.len.result - 1 - 1) (drop 1 c.deref.result.now) in
    let same : xs ≡ between kids =
    between_read kids c.deref.result.now c.len.result (c.deref.ensures.value ∙ c.in_ok-children.ensures.children) (c.len.ensures ∙ c.in_ok-children.children.ok.0 ∙ ap length c.in_ok-children.ensures.children) in
    order_of ns ns c.args.container c.args.tree.now.tree c.requires.in_tree h c.args.order.now xs c.deref-2.result.now same (subst (AreEntries (content_at ns) h xs) (sym c.deref-2.ensures.value) c.in_ok-entries.ensures)
    (has_both ns c.args.container c.args.order.now c.requires.moves).0 c.requires.order

pub returns-clause-planned : goal.returns-clause-planned
returns-clause-planned g c =
    let ns = c.args.tree.now.nodes in
    let h = headers_of c.args.pinned.now c.args.groups in
    let kids : List ℕ = children_at ns c.args.container in
    let xs : List ℕ = take (c.len.result - 1 - 1) (drop 1 c.deref.result.now) in
    let same : xs ≡ between kids =
    between_read kids c.deref.result.now c.len.result (c.deref.ensures.value ∙ c.in_ok-children.ensures.children) (c.len.ensures ∙ c.in_ok-children.children.ok.0 ∙ ap length c.in_ok-children.ensures.children) in
    let both = has_both ns c.args.container c.args.order.now c.requires.moves in
    sort_is_planned ns c.plan_row.new.tree.nodes c.args.container c.args.tree.now.tree c.requires.in_tree h c.args.order.now xs c.deref-2.result.now same (subst (AreEntries (content_at ns) h xs) (sym c.deref-2.ensures.value) c.in_ok-entries.ensures) both.0 both.1 c.requires.order c.newline_kind_at-newline.result
    c.newline_kind_at-newline.ensures c.in_ok-sorted.sorted.items c.in_ok-sorted.ensures.planned
