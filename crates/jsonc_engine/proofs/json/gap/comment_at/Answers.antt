use Rattle.std.proofs.Common.{refl}
use Rattle.jsonc_engine.proofs.Gaps.{no_comment_here}
use Rattle.jsonc_engine.proofs.json.gap.comment_at.Goals as goal

pub returns-else-has_byte-clause-none : goal.returns-else-has_byte-clause-none
returns-else-has_byte-clause-none c = no_comment_here c.args.text.now c.args.place (c.if-has_byte.ensures.other refl)
