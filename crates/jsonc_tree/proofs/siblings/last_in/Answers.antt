use Rattle.std.proofs.Common.{◌∙◌}
use Rattle.jsonc_tree.proofs.LinkedRows.{last_first}
use Rattle.jsonc_tree.proofs.siblings.last_in.Goals as goal

pub returns : goal.returns
returns g c = c.last_of.ensures ∙ last_first c.args.nodes.now.items c.requires.stored c.args.c
