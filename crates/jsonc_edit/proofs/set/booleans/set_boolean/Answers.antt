use Rattle.std.proofs.Common.{sym, ap, subst, ◌∙◌}
use Rattle.jsonc_edit.specs.Due.{listed}
use Rattle.jsonc_edit.specs.Put.{AreChildren}
use Rattle.jsonc_edit.proofs.ReplacedChildren.{where_refused}
use Rattle.jsonc_edit.proofs.NodesKept.{tree_stays}
use Rattle.jsonc_edit.proofs.lemmas.set.BooleanSetting.{due_children}
use Rattle.jsonc_edit.proofs.set.booleans.set_boolean.Goals as goal

pub returns-in_err-spaces-clause-document : goal.returns-in_err-spaces-clause-document
returns-in_err-spaces-clause-document g c =
    where_refused c.from_residual.result (tree_stays c.args.tree.now.nodes c.make_spaces.new.tree.nodes c.args.tree.now.tree c.make_spaces.ensures.prepared.keeps c.make_spaces.ensures.prepared.tree)

pub put_spaces-requires-clause-children : goal.put_spaces-requires-clause-children
put_spaces-requires-clause-children g c =
    subst (AreChildren c.make_spaces.new.tree.nodes) (sym (c.in_ok-spaces.ensures.hand.are ∙ ap listed c.space_needed_for-due.ensures))
    (due_children c.args.tree.now.nodes c.make_spaces.new.tree.nodes c.make_spaces.ensures.prepared.keeps c.args.leaf c.requires.in_tree c.args.value)
