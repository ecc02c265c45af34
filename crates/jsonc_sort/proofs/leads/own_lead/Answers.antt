use Rattle.std.proofs.Common.{◌≡◌, ◌∙◌, sym, ap, subst, arith}
use Rattle.std.specs.Prelude.{if◌then◌else◌}
use Rattle.jsonc_tree.specs.Tree.{content_at}
use Rattle.jsonc_sort.proofs.Own.{Passed, both, passed_all, passed_by, passed_none, passed_now}
use Rattle.jsonc_sort.proofs.leads.own_lead.Goals as goal
use Rattle.jsonc_sort.proofs.leads.own_lead.Goals.{then-ends, else-ends}

pub returns-then-ends-ended-clause-begins : goal.returns-then-ends-ended-clause-begins
returns-then-ends-ended-clause-begins g c =
    let at = content_at c.args.tree.now.nodes in
    let known = both at c.is_newline-ends.result c.loop-place.ended c.if-ends-ended.true in
    passed_now at c.args.lead.now c.loop-place.place c.loop-place.start c.loop-place.ended c.loop-place-test.true c.loop-place.invariant (sym c.is_newline-ends.ensures.newline ∙ known.0) known.1

pub loop-place-preserved : goal.loop-place-preserved
loop-place-preserved g c =
    passed_by (content_at c.args.tree.now.nodes) c.args.lead.now c.loop-place.place c.loop-place.start c.loop-place.ended c.is_newline-ends.result c.is_whitespace.result c.if-ends.start
    c.loop-place-test.true c.loop-place.invariant c.is_newline-ends.ensures.newline c.is_whitespace.ensures.whitespace c.if-ends-ended.false
    (elim c.if-ends.branch [
      | then-ends w ↦ w.start-is ∙ sym (ap (λ b. if b then c.loop-place.place else c.loop-place.start) w.if-ends.true)
      | else-ends w ↦ w.start-is ∙ sym (ap (λ b. if b then c.loop-place.place else c.loop-place.start) w.if-ends.false)
    ])

pub loop-place-init : goal.loop-place-init
loop-place-init g c = passed_none (content_at c.args.tree.now.nodes) c.args.lead.now

pub returns-clause-begins : goal.returns-clause-begins
returns-clause-begins g c =
    let at = content_at c.args.tree.now.nodes in
    let start : c.loop-place.place ≡ 0 = omega (arith, c.loop-place-test.false) in
    passed_all at c.args.lead.now c.loop-place.start c.loop-place.ended (subst (λ k. Passed at c.args.lead.now k c.loop-place.start c.loop-place.ended) start c.loop-place.invariant)
