use Rattle.jsonc_tree.specs.Tree.{content_at}
use Rattle.jsonc_run.specs.Places.{IsNeeded}
use Rattle.jsonc_run.proofs.EntryPaths.{standing_there}
use Rattle.jsonc_run.proofs.places.find_needed.Goals as goal

pub returns-clause-found : goal.returns-clause-found
returns-clause-found g c =
    standing_there c.args.tree.now.nodes c.args.path.now (λ n. IsNeeded c.args.needed (content_at c.args.tree.now.nodes n)) c.find.result c.if_needed.result c.find.ensures.found c.if_needed.ensures.found
