use Rattle.jsonc_layout.proofs.lemmas.Building.{made_from}
use Rattle.jsonc_insert.specs.Made.{comma_leaf}
use Rattle.jsonc_insert.proofs.made.make_comma.Goals as goal

pub returns-clause-made : goal.returns-clause-made
returns-clause-made g c =
    made_from c.args.tree.now.nodes c.push_comma_if.new.tree.nodes c.new-leaves.result.nodes.items c.push_comma_if.new.leaves.nodes.items (comma_leaf c.args.wanted) c.new-leaves.ensures c.in_ok-push_comma_if.ensures.gains
