use Rattle.jsonc_walk.proofs.lemmas.NotedComments.{shows_all}
use Rattle.jsonc_walk.proofs.comments.GapComments.finish.Goals as goal

pub returns : goal.returns
returns g c = shows_all c.args.self c.end_gap.new.self c.args.end c.in_ok-end_gap.ensures
