use Rattle.std.proofs.Common.{◌∙◌, ap, arith, sym}
use Rattle.jsonc_lint.proofs.Moves.{none_told, told_again, told_one}
use Rattle.jsonc_lint.proofs.faults.mend_findings.Goals as goal
use Rattle.jsonc_lint.proofs.faults.mend_findings.Goals.{then-not-is_again+in_ok-push, else-not-is_again}

pub loop-mend-init : goal.loop-mend-init
loop-mend-init g c = none_told c.new-found.result.items c.new-found.ensures.items

pub loop-mend-preserved : goal.loop-mend-preserved
loop-mend-preserved g c =
    let ms = c.args.mends.now in
    let at = c.loop-mend.mend-index in
    let last = c.loop-mend.last in
    let found = c.loop-mend.found.items in
    elim c.if-not-is_again.branch [
      | then-not-is_again+in_ok-push w ↦ told_one ms at _ last w.mend_finding.result found c.if-not-is_again.found.items (omega (arith, c.loop-mend-test.true)) (sym c.is_again.ensures ∙ w.if-not-is_again.true) w.mend_finding.ensures
          (ap (λ v. v.items) w.found-is ∙ w.in_ok-push.ensures.items) c.loop-mend.invariant
      | else-not-is_again w ↦ told_again ms at _ last found c.if-not-is_again.found.items (omega (arith, c.loop-mend-test.true)) (sym c.is_again.ensures ∙ w.if-not-is_again.false) (ap (λ v. v.items) w.found-is) c.loop-mend.invariant
    ]
