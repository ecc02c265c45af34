use Rattle.std.proofs.Common.{◌-◌, ◌∙◌, ap, get_or, arith}
use Rattle.jsonc_text.proofs.BlockCloses.{block_by_slash, by_run, by_slash, no_block_by, slash_of}
use Rattle.jsonc_text.proofs.comment.block_close.Goals.{else-start-slash-via-then-start-slash+else-bytes-slash-eq42, else-start-slash-via-else-start-slash}
use Rattle.jsonc_text.proofs.comment.block_close.Goals as goal

pub returns-then-bytes-slash-eq42-clause-found : goal.returns-then-bytes-slash-eq42-clause-found
returns-then-bytes-slash-eq42-clause-found c =
    let same = c.as_bytes-bytes.ensures.value in
    let held = c.loop-slash.invariant in
    let here = rw same at c.loop-slash-test.true in
    block_by_slash _ _ _ c.utf8.text c.requires held.1 here c.if-start-slash.true (rw same at c.if-bytes-slash-eq42.true) (held.2 here)

pub loop-slash-preserved : goal.loop-slash-preserved
loop-slash-preserved c =
    let same = c.as_bytes-bytes.ensures.value in
    let past =
    by_slash _ _ _ c.loop-slash.invariant.1 (rw same at c.loop-slash-test.true) (λ after star.
    elim c.else-start-slash.branch [
      | else-start-slash-via-then-start-slash+else-bytes-slash-eq42 w ↦ w.if-bytes-slash-eq42.false (ap (λ b. get_or b (c.loop-slash.slash - 1) 0) same ∙ star)
      | else-start-slash-via-else-start-slash w ↦ absurd (omega (arith, after, w.if-start-slash.false))
    ]) in
    let run = rw same at c.byte_stop-slash-in-loop-slash.ensures in
    (same, by_run _ _ _ _ past run, λ more. slash_of _ (run.stops more))

pub returns-clause-none : goal.returns-clause-none
returns-clause-none c =
    no_block_by _ _ _ c.utf8.text c.requires c.loop-slash.invariant.1 (rw c.as_bytes-bytes.ensures.value at c.loop-slash-test.false)
