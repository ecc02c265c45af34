use Rattle.jsonc_diff.proofs.Scripts.{two_parts}
use Rattle.jsonc_diff.proofs.script.push_stretch.Goals as goal

pub returns-clause-old : goal.returns-clause-old
returns-clause-old g c = two_parts _ _ _ c.args.old.now c.split_at.result.1.now _ _ c.split_at.ensures.back c.in_ok-same.ensures.old c.in_ok-removed.ensures.old

pub returns-clause-new : goal.returns-clause-new
returns-clause-new g c = two_parts _ _ _ c.args.new.now c.split_at-2.result.1.now _ _ c.split_at-2.ensures.back c.in_ok-same.ensures.new c.in_ok-removed.ensures.new
