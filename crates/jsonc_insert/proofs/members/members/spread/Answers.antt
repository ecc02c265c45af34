use Rattle.std.proofs.Common.{◌-◌, ap, arith, length, refl, subst, ◌∙◌}
use Rattle.jsonc_tree.specs.Changes.{Splices}
use Rattle.jsonc_tree.specs.Content.{is_container}
use Rattle.jsonc_tree.specs.Tree.{children_at}
use Rattle.jsonc_edit.proofs.lemmas.multiline.WholeRow.{row_ready}
use Rattle.jsonc_edit.specs.multiline.Lines.{spread_row}
use Rattle.jsonc_edit.specs.multiline.Plans.{PlannedRow}
use Rattle.jsonc_insert.proofs.TrimmedRows.{has_two}
use Rattle.jsonc_insert.proofs.lemmas.members.SpreadRows.{is_spread}
use Rattle.jsonc_insert.proofs.members.members.spread.Goals as goal

pub set_between-requires-clause-in_tree : goal.set_between-requires-clause-in_tree
set_between-requires-clause-in_tree g c = omega (arith, c.requires.in_tree, c.plan_lines.ensures.prepared.keeps.len)

pub set_between-requires-clause-container : goal.set_between-requires-clause-container
set_between-requires-clause-container g c = ap is_container (c.plan_lines.ensures.prepared.keeps.content c.args.object c.requires.in_tree ∙ c.requires.object)

pub set_between-requires-clause-two : goal.set_between-requires-clause-two
set_between-requires-clause-two g c =
    omega (
      arith,
      has_two c.args.tree.now.nodes (children_at c.args.tree.now.nodes c.args.object) c.requires.brackets,
      ap length (c.plan_lines.ensures.prepared.keeps.children c.args.object c.requires.in_tree),
    )

pub set_between-requires-clause-join : goal.set_between-requires-clause-join
set_between-requires-clause-join g c =
    row_ready c.args.tree.now.nodes c.plan_lines.new.tree.nodes c.args.object _ c.in_ok-row.row.items c.args.tree.now.tree c.requires.in_tree c.in_ok-row.ensures.planned c.plan_lines.ensures.prepared.tree _ refl
    c.deref.result.now c.deref.ensures.value

pub returns-clause-spread : goal.returns-clause-spread
returns-clause-spread g c =
    let old = c.args.tree.now.nodes in
    let lined = c.plan_lines.new.tree.nodes in
    let x = c.args.object in
    is_spread old lined c.set_between.new.tree.nodes x c.in_ok-row.row.items c.args.tree.now.tree c.requires.in_tree c.requires.brackets c.requires.ends
    (subst (λ l. PlannedRow old lined x (spread_row l old x) c.in_ok-row.row.items) c.in_ok-lines.ensures c.in_ok-row.ensures.planned)
    c.plan_lines.ensures.prepared c.set_between.new.tree.tree (length (children_at lined x)) (ap length (c.plan_lines.ensures.prepared.keeps.children x c.requires.in_tree))
    (subst (Splices lined c.set_between.new.tree.nodes x 1 (length (children_at lined x) - 1)) c.deref.ensures.value c.set_between.ensures)
