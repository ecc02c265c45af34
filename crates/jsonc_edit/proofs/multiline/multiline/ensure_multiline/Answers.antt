use Rattle.std.proofs.Common.{◌≡◌, true, length, IsTrue, refl, sym, ap, ◌∙◌, arith}
use Rattle.jsonc_tree.specs.Content.{Content, is_container}
use Rattle.jsonc_tree.specs.Tree.{content_at, children_at}
use Rattle.jsonc_edit.proofs.ReplacedChildren.{where_refused}
use Rattle.jsonc_edit.proofs.NodesKept.{tree_stays}
use Rattle.jsonc_layout.specs.lines.Kinds.{is_array_or_object}
use Rattle.jsonc_edit.specs.multiline.Lines.{between, on_lines}
use Rattle.jsonc_edit.proofs.lemmas.multiline.WholeRow.{row_ready, made_multiline, two_there}
use Rattle.jsonc_edit.proofs.multiline.multiline.ensure_multiline.Goals as goal

pub set_between-requires-clause-join : goal.set_between-requires-clause-join
set_between-requires-clause-join g c =
    row_ready c.args.tree.now.nodes c.plan_lines.new.tree.nodes c.args.container _ c.in_ok-row.row.items c.args.tree.now.tree c.requires.in_tree c.in_ok-row.ensures.planned c.plan_lines.ensures.prepared.tree _ refl
    c.deref.result.now c.deref.ensures.value

pub returns-in_err-row-clause-document : goal.returns-in_err-row-clause-document
returns-in_err-row-clause-document g c =
    where_refused c.from_residual-in_err-row.result
    (tree_stays c.args.tree.now.nodes c.plan_lines.new.tree.nodes c.args.tree.now.tree c.plan_lines.ensures.prepared.keeps c.plan_lines.ensures.prepared.tree)

pub returns-clause-made : goal.returns-clause-made
returns-clause-made g c =
    made_multiline c.args.tree.now.nodes c.plan_lines.new.tree.nodes c.args.container _ c.in_ok-row.row.items c.args.tree.now.tree c.requires.in_tree c.in_ok-row.ensures.planned c.plan_lines.ensures.prepared.tree _ refl
    c.set_between.new.tree.nodes c.set_between.new.tree.tree c.deref.result.now c.deref.ensures.value c.set_between.ensures (ap (λ l. on_lines l c.args.tree.now.nodes (between (children_at c.args.tree.now.nodes c.args.container))) c.in_ok-lines.ensures) (sym c.has_brackets.ensures ∙ c.if-not-has_brackets.false) (sym c.has_line_end.ensures ∙ c.if-has_line_end.false)

contains : (w : Content) → IsTrue (is_array_or_object w) → is_container w ≡ true
contains w holds = grind arith

pub set_between-requires-clause-in_tree : goal.set_between-requires-clause-in_tree
set_between-requires-clause-in_tree g c = omega (arith, c.requires.in_tree, c.plan_lines.ensures.prepared.keeps.len)

pub set_between-requires-clause-container : goal.set_between-requires-clause-container
set_between-requires-clause-container g c =
    ap is_container (c.plan_lines.ensures.prepared.keeps.content c.args.container c.requires.in_tree) ∙ contains (content_at c.args.tree.now.nodes c.args.container) c.requires.holds

pub set_between-requires-clause-two : goal.set_between-requires-clause-two
set_between-requires-clause-two g c =
    omega (
      arith,
      two_there c.args.tree.now.nodes c.args.container (sym c.has_brackets.ensures ∙ c.if-not-has_brackets.false),
      ap length (c.plan_lines.ensures.prepared.keeps.children c.args.container c.requires.in_tree),
    )

pub returns-in_err-row-clause-kept : goal.returns-in_err-row-clause-kept
returns-in_err-row-clause-kept g c = where_refused c.from_residual-in_err-row.result c.plan_lines.ensures.prepared.keeps
