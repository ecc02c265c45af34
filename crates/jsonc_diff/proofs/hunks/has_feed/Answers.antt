use Rattle.std.proofs.Common.{[], ◌∷◌}
use Rattle.std.proofs.lemmas.Str.Pattern.{ends_text}
use Rattle.jsonc_diff.proofs.hunks.has_feed.Goals as goal

pub returns : goal.returns
returns c = ends_text c.ends_with.result (10 ∷ []) c.args.line.now c.ends_with.ensures.cases
