use Rattle.std.proofs.Common.{◌∙◌}
use Rattle.jsonc_tree.proofs.LinkSteps.{first_step}
use Rattle.jsonc_tree.proofs.siblings.first_in.Goals as goal

pub returns : goal.returns
returns g c = c.first_of.ensures ∙ first_step c.args.nodes.now.items c.requires.stored c.args.c
