use Rattle.std.proofs.Common.{◌∙◌}
use Rattle.jsonc_tree.proofs.AgreeingLinks.{parent_shown}
use Rattle.jsonc_tree.proofs.walk.parent_in.Goals as goal

pub returns : goal.returns
returns g c = c.parent_of.ensures ∙ parent_shown c.args.nodes.now.items c.args.n
