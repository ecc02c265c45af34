use Rattle.jsonc_changes.proofs.Common.{nothing_common, more_common}
use Rattle.jsonc_changes.proofs.changes.common_len.Goals as goal

pub loop-c-preserved : goal.loop-c-preserved
loop-c-preserved c =
    let grown = more_common _ _ _ _ c.loop-c.len c.in-Some.c c.loop-c.invariant c.in-Some.ensures.old c.in-Some.ensures.new c.in-Some.ensures.some in
    rw c.len_utf8-len.ensures.value grown

pub loop-c-init : goal.loop-c-init
loop-c-init c = nothing_common _ _ _ _ c.requires.old c.requires.new
