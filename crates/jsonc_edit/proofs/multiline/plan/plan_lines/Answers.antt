use Rattle.std.proofs.Common.{List, true, length, refl, sym, ap, subst, ◌∙◌}
use Rattle.jsonc_tree.specs.Building.{Keeps}
use Rattle.jsonc_tree.specs.Tree.{Node, children_at}
use Rattle.jsonc_tree.proofs.Builder.{Keeps-then, Keeps-fewer}
use Rattle.jsonc_edit.specs.Put.{Extends}
use Rattle.jsonc_edit.specs.multiline.LineViews.{lines_of}
use Rattle.jsonc_edit.proofs.lemmas.multiline.WholeRow.{SoFar, items_are, item_there, so_far_more, so_far_none, row_planned, two_there}
use Rattle.jsonc_edit.proofs.multiline.plan.plan_lines.Goals as goal

pub push_child-requires : goal.push_child-requires
push_child-requires g c = item_there c.args.tree.now.nodes c.loop-child.tree.nodes c.args.container (lines_of c.args.lines.now) _ c.loop-child.child-index c.loop-child.begins c.loop-child.row.nodes.items c.loop-child.invariant _ refl c.loop-child-test.true

pub loop-child-init : goal.loop-child-init
loop-child-init g c =
    subst (SoFar c.args.tree.now.nodes c.args.tree.now.nodes c.args.container (lines_of c.args.lines.now) _ 0 true) (sym c.new-row.ensures)
    (so_far_none c.args.tree.now.nodes c.args.container (lines_of c.args.lines.now) _ c.args.tree.now.tree c.requires.in_tree (two_there c.args.tree.now.nodes c.args.container c.requires.brackets)
    (items_are c.args.tree.now.nodes (children_at c.args.tree.now.nodes c.args.container) c.deref.result.now c.len.result c.blanks_from-end.result (c.deref.ensures.value ∙ c.in_ok-children.ensures.children)
    (c.len.ensures ∙ c.in_ok-children.children.ok.0 ∙ ap length c.in_ok-children.ensures.children) c.blanks_from-end.ensures.from))

pub loop-child-preserved : goal.loop-child-preserved
loop-child-preserved g c =
    so_far_more c.args.tree.now.nodes c.loop-child.tree.nodes c.args.container (lines_of c.args.lines.now) _ c.loop-child.child-index c.loop-child.begins c.loop-child.row.nodes.items c.loop-child.invariant _ refl c.loop-child-test.true c.push_child.new.tree.nodes c.push_child.new.row.nodes.items c.in_ok-begins.begins
    c.in_ok-begins.ensures.gains c.in_ok-begins.ensures.begins

pub returns-clause-planned : goal.returns-clause-planned
returns-clause-planned g c =
    row_planned c.args.tree.now.nodes c.loop-child.tree.nodes c.args.container (lines_of c.args.lines.now) _ c.loop-child.child-index c.loop-child.begins c.loop-child.row.nodes.items c.loop-child.invariant c.loop-child-test.false c.push_last_line.new.tree.nodes c.push_last_line.new.row.nodes.items c.push_last_line.new.tree.tree c.in_ok-push_last_line.ensures.gains

-- what was kept through the loop is kept by what comes behind it
prepared_then : (old now later : List Node) → Keeps (length old) old now → Extends now later → Extends old later
prepared_then old now later keeps p = record {
  keeps = Keeps-then (length old) old now later keeps (Keeps-fewer (length old) (length now) now later keeps.len p.keeps);
  tree = p.tree;
}

pub returns-in_err-begins-clause-prepared : goal.returns-in_err-begins-clause-prepared
returns-in_err-begins-clause-prepared g c =
    prepared_then c.args.tree.now.nodes c.loop-child.tree.nodes c.push_child.new.tree.nodes c.loop-child.invariant.planned.keeps c.push_child.ensures.prepared

pub returns-in_err-push_last_line-clause-prepared : goal.returns-in_err-push_last_line-clause-prepared
returns-in_err-push_last_line-clause-prepared g c =
    prepared_then c.args.tree.now.nodes c.loop-child.tree.nodes c.push_last_line.new.tree.nodes c.loop-child.invariant.planned.keeps c.push_last_line.ensures.prepared

pub returns-clause-prepared : goal.returns-clause-prepared
returns-clause-prepared g c =
    prepared_then c.args.tree.now.nodes c.loop-child.tree.nodes c.push_last_line.new.tree.nodes c.loop-child.invariant.planned.keeps c.push_last_line.ensures.prepared
