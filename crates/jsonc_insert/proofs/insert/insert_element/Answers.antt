use Rattle.jsonc_edit.proofs.ReplacedChildren.{where_refused}
use Rattle.jsonc_edit.proofs.NodesKept.{tree_stays}
use Rattle.jsonc_insert.proofs.insert.insert_element.Goals as goal

pub returns-in_err-element-clause-document : goal.returns-in_err-element-clause-document
returns-in_err-element-clause-document g c =
    where_refused c.from_residual.result (tree_stays c.args.tree.now.nodes c.insert_entry.new.tree.nodes c.args.tree.now.tree c.in_err-element.ensures.kept c.insert_entry.new.tree.tree)
