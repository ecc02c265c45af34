use Rattle.std.proofs.Common.{◌∙◌}
use Rattle.jsonc_tolerant.proofs.mended.parse_mended.Goals as goal

pub returns-in-Ok-clause-mended : goal.returns-in-Ok-clause-mended
returns-in-Ok-clause-mended g c = record {
  mends = c.in_ok-mends.ensures;
  printed = c.in-Ok.ensures.printed ∙ c.text.ensures;
}
