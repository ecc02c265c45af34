use Rattle.std.proofs.Common.{refl, sym, ◌∙◌}
use Rattle.jsonc_edit.proofs.ReplacedChildren.{where_refused}
use Rattle.jsonc_edit.proofs.NodesKept.{tree_stays}
use Rattle.jsonc_edit.proofs.lemmas.multiline.WholeRow.{row_ready}
use Rattle.jsonc_sort.specs.Rearranged.{headers_of}
use Rattle.jsonc_sort.proofs.SortedRow.{all_moves}
use Rattle.jsonc_sort.proofs.order.rearrange.Goals as goal

pub set_between-requires-clause-join : goal.set_between-requires-clause-join
set_between-requires-clause-join g c =
    row_ready c.args.tree.now.nodes c.sorted_row.new.tree.nodes c.args.container _ c.in_ok-row.row.items c.args.tree.now.tree c.requires.in_tree c.in_ok-row.ensures.planned c.sorted_row.ensures.prepared.tree _ refl
    c.deref.result.now c.deref.ensures.value

pub returns-in_err-row-clause-document : goal.returns-in_err-row-clause-document
returns-in_err-row-clause-document g c =
    where_refused c.from_residual.result
    (tree_stays c.args.tree.now.nodes c.sorted_row.new.tree.nodes c.args.tree.now.tree c.sorted_row.ensures.prepared.keeps c.sorted_row.ensures.prepared.tree)

pub returns-clause-made : goal.returns-clause-made
returns-clause-made g c =
    all_moves c.args.tree.now.nodes c.sorted_row.new.tree.nodes c.set_between.new.tree.nodes c.args.container (headers_of c.args.pinned.now c.args.groups) c.args.order.now c.in_ok-row.row.items c.args.tree.now.tree c.requires.in_tree c.in_ok-row.ensures.planned c.sorted_row.ensures.prepared.tree
    c.set_between.new.tree.tree _ refl c.deref.result.now c.deref.ensures.value c.set_between.ensures (sym c.moves.ensures ∙ c.if-not-moves.false)
