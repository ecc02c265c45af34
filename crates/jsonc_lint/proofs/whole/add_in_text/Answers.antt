use Rattle.std.proofs.Common.{◌≡◌, ◌∙◌, ◌∷◌, [], None, Some, ap, arith, length, subst, sym}
use Rattle.std.proofs.lemmas.List.{nil_from_length}
use Rattle.std.specs.Vec.Iter.{into_iter_items}
use Rattle.jsonc_lint.specs.Moves.{IsSeen}
use Rattle.jsonc_lint.proofs.Moves.{all_added, next_lies, none_added, passed_here, passed_written}
use Rattle.jsonc_lint.proofs.whole.add_in_text.Goals as goal

pub loop-finding-init : goal.loop-finding-init
loop-finding-init g c =
    let all = c.into_iter-finding-iterator.ensures.into_iter_gives in (
      none_added c.args.lines.now c.args.mends.now c.args.found.items (into_iter_items c.into_iter-finding-iterator.result) c.args.findings.now.items all.0 c.requires.found,
      omega (arith, all.1, ap length all.0, c.args.found.ok.0),
    )

pub in_text-requires-clause-finding : goal.in_text-requires-clause-finding
in_text-requires-clause-finding g c =
    let at = c.loop-finding in
    next_lies c.args.lines.now c.args.mends.now c.args.found.items (into_iter_items at.finding-iterator) (into_iter_items c.next.new.self) c.args.findings.now.items at.findings.items c.in-Some.finding
    c.in-Some.ensures.steps.0 at.invariant.0

pub loop-finding-preserved-in-Continue-1 : goal.loop-finding-preserved-in-Continue-1
loop-finding-preserved-in-Continue-1 g c =
    let at = c.loop-finding in
    let steps = c.in-Some.ensures.steps in
    let seen = subst (IsSeen c.args.lines.now c.args.mends.now.list.items c.in-Some.finding) c.in-Some-in_text.is c.in_text.ensures in (
      passed_here c.args.lines.now c.args.mends.now c.args.found.items (into_iter_items at.finding-iterator) (into_iter_items c.next.new.self) c.args.findings.now.items at.findings.items c.in-Some.finding
          steps.0 at.invariant.0 c.in-Some-in_text.here c.push.new.self.items seen c.in_ok-push.ensures.items,
      omega (arith, at.invariant.1, steps.1, ap length steps.0),
    )

pub loop-finding-preserved : goal.loop-finding-preserved
loop-finding-preserved g c =
    let at = c.loop-finding in
    let steps = c.in-Some.ensures.steps in
    let seen = subst (IsSeen c.args.lines.now c.args.mends.now.list.items c.in-Some.finding) c.in_default.is c.in_text.ensures in (
      passed_written c.args.lines.now c.args.mends.now c.args.found.items (into_iter_items at.finding-iterator) (into_iter_items c.next.new.self) c.args.findings.now.items at.findings.items c.in-Some.finding
          steps.0 at.invariant.0 seen,
      omega (arith, at.invariant.1, steps.1, ap length steps.0),
    )

pub returns : goal.returns
returns g c =
    let at = c.loop-finding in
    all_added c.args.lines.now c.args.mends.now c.args.found.items (into_iter_items at.finding-iterator) c.args.findings.now.items at.findings.items
    (nil_from_length (into_iter_items at.finding-iterator) (sym at.invariant.1 ∙ c.in-None.ensures.steps.0)) at.invariant.0
