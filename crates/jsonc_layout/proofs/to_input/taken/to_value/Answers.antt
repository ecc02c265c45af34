use Rattle.jsonc_layout.proofs.lemmas.to_input.Nodes.{tree_taken}
use Rattle.jsonc_layout.proofs.to_input.taken.to_value.Goals as goal

pub returns-clause-value : goal.returns-clause-value
returns-clause-value g c = tree_taken c.args.tree.now.nodes c.args.node c.take.result c.args.tree.now.tree c.requires c.take.ensures.taken
