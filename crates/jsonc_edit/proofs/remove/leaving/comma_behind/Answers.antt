use Rattle.std.proofs.Common.{sym, subst}
use Rattle.jsonc_layout.specs.nodes.Siblings.{IsThere}
use Rattle.jsonc_edit.proofs.lemmas.remove.SiblingSteps.{trailing_there}
use Rattle.jsonc_edit.proofs.remove.leaving.comma_behind.Goals as goal

pub returns-clause-in_tree : goal.returns-clause-in_tree
returns-clause-in_tree g c = subst (IsThere c.args.tree.now.nodes) (sym c.trailing_comma.ensures.comma) (trailing_there c.args.tree.now.nodes c.args.tree.now.tree c.args.node)
