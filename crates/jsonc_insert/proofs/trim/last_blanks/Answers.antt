use Rattle.std.proofs.Common.{ap, is_some, sym, subst, ◌∙◌}
use Rattle.jsonc_tree.proofs.Order.{parent_there}
use Rattle.jsonc_insert.proofs.BlankRuns.{cut_order, cut_ordered, last_read, on_both, parts_of, some_solid}
use Rattle.jsonc_insert.proofs.trim.last_blanks.Goals as goal

pub unreachable-requires-in_default-solid_before : goal.unreachable-requires-in_default-solid_before
unreachable-requires-in_default-solid_before g c =
    some_solid c.args.tree.now.nodes c.args.tree.now.tree c.args.container c.requires.brackets c.in-Some.close (sym c.last_child.ensures ∙ c.in-Some.is) (sym c.solid_before.ensures ∙ c.in_default-solid_before.is)

pub blanks_from-requires : goal.blanks_from-requires
blanks_from-requires g c =
    let ns = c.args.tree.now.nodes in
    (parent_there ns c.args.tree.now.tree c.in-Some-solid_before.node c.args.container
    (parts_of ns c.args.tree.now.tree c.args.container c.requires.brackets c.in-Some.close (sym c.last_child.ensures ∙ c.in-Some.is) c.in-Some-solid_before.node (sym c.solid_before.ensures ∙ c.in-Some-solid_before.is)).said).0

pub previous_sibling-requires : goal.previous_sibling-requires
previous_sibling-requires g c = blanks_from-requires g c.before.before.before

pub cut-requires-clause-order : goal.cut-requires-clause-order
cut-requires-clause-order g c = subst cut_ordered (sym c.last_stretch.ensures) (cut_order c.args.tree.now.nodes c.is_some-is_behind.result c.deref-2.result.now)

pub returns : goal.returns
returns g c =
    let ns = c.args.tree.now.nodes in
    let tree = c.args.tree.now.tree in
    let node = c.in-Some-solid_before.node in
    let parts = parts_of ns tree c.args.container c.requires.brackets c.in-Some.close (sym c.last_child.ensures ∙ c.in-Some.is) node (sym c.solid_before.ensures ∙ c.in-Some-solid_before.is) in
    on_both c.cut.result
    (λ b after nodes.
    last_read ns tree c.args.container c.requires.brackets node parts c.in_ok-row.row.items c.deref-2.result.now c.in_ok-row.ensures c.deref-2.ensures.value c.is_some-is_behind.result (c.is_some-is_behind.ensures ∙ ap is_some c.previous_sibling.ensures)
    c.last_stretch.result c.last_stretch.ensures c.deref.result.now c.deref.ensures.value b after nodes)
    c.cut.ensures.after c.cut.ensures.nodes
