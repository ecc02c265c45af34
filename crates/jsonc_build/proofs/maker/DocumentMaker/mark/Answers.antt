use Rattle.std.proofs.Common.{ap}
use Rattle.jsonc_tree.specs.Content.{token}
use Rattle.jsonc_tree.specs.OrderedTree.{none, more}
use Rattle.jsonc_tree.specs.Stored.{content_of}
use Rattle.jsonc_build.specs.Making.{container_in, nodes_in}
use Rattle.jsonc_build.proofs.AddedChildren.{grows_leaf, grows_none, pushes_same}
use Rattle.jsonc_build.proofs.Building.{at_before, mark_before}
use Rattle.jsonc_build.proofs.FilledGaps.{fills_none, marked, separator_there}
use Rattle.jsonc_build.proofs.maker.DocumentMaker.mark.Goals as goal

pub returns-then-self-from-clause-growing : goal.returns-then-self-from-clause-growing
returns-then-self-from-clause-growing g c = (at_before c.args.self.now c.requires.behind).1.growing

pub returns-then-self-from-clause-filled : goal.returns-then-self-from-clause-filled
returns-then-self-from-clause-filled g c =
    let old = c.args.self.now in
    (none, grows_none (nodes_in old) (container_in old), fills_none old.text.now old.place c.args.from c.if-self-from.true c.requires.boundary)

pub mark_at-mark-requires-clause-boundary : goal.mark_at-mark-requires-clause-boundary
mark_at-mark-requires-clause-boundary g c = (mark_before c.args.self.now c.requires.behind c.if-self-from.false).2.spans.from

pub mark_at-mark-requires-clause-stands : goal.mark_at-mark-requires-clause-stands
mark_at-mark-requires-clause-stands g c =
    let old = c.args.self.now in
    let before = mark_before old c.requires.behind c.if-self-from.false in
    separator_there old.text.now old.place c.args.from before.0 before.2 before.1

pub push-requires : goal.push-requires
push-requires g c = (at_before c.args.self.now c.requires.behind).1.growing

pub returns-clause-filled : goal.returns-clause-filled
returns-clause-filled g c =
    let old = c.args.self.now in
    let before = mark_before old c.requires.behind c.if-self-from.false in
    let growing = (at_before old c.requires.behind).1.growing in
    let mark = c.mark_at-mark in (
      more (token mark.result) none none,
      grows_leaf growing.in_tree (pushes_same (ap content_of c.token.ensures) c.in_ok-push.ensures.pushes),
      marked old.text.now old.place c.args.from before.0 mark.result before.2 mark.ensures.here mark.ensures.mark,
    )
