use Rattle.jsonc_parser.proofs.lemmas.patch.Taking.{leaf_taken}
use Rattle.jsonc_parser.proofs.patch.taking.take_leaf.Goals as goal

pub returns-in-Ok : goal.returns-in-Ok
returns-in-Ok g c = leaf_taken c.args.tree.now.nodes c.args.tree.now.tree c.args.leaf c.requires.in_tree c.in-Ok.value c.requires.leaf c.in-Ok.ensures.value
