use Rattle.std.proofs.Common.{sym, arith}
use Rattle.std.proofs.lemmas.Option.{IfSome_then}
use Rattle.jsonc_layout.proofs.lemmas.lines.WalkSteps.{come_up, not_top, passes_top, passes_up}
use Rattle.jsonc_layout.specs.lines.Walk.{node_of}
use Rattle.jsonc_layout.proofs.lines.walk.next_higher.Goals as goal

pub returns-then-here-top-clause-passes : goal.returns-then-here-top-clause-passes
returns-then-here-top-clause-passes g c = passes_top c.args.tree.now.nodes c.args.tree.now.tree c.args.top c.args.here.node c.requires.come.in_tree c.if-here-top.true

pub overflow_sub-above : goal.overflow_sub-above
overflow_sub-above g c = not_top c.args.tree.now.nodes c.args.tree.now.tree c.args.top c.args.here c.in-Some.parent c.requires.come c.if-here-top.false (sym c.in-Some.ensures)

pub next_past-requires : goal.next_past-requires
next_past-requires g c = record {
  come = come_up c.args.tree.now.nodes c.args.tree.now.tree c.args.top c.args.here c.in-Some.parent c.requires.come c.if-here-top.false (sym c.in-Some.ensures);
}

pub returns-clause-passes : goal.returns-clause-passes
returns-clause-passes g c =
    passes_up c.args.tree.now.nodes c.args.tree.now.tree c.args.top c.args.here.node c.in-Some.parent (node_of c.next_past.result) c.requires.come.in_tree c.if-here-top.false (sym c.in-Some.ensures) c.next_past.ensures.next

pub returns-clause-depth : goal.returns-clause-depth
returns-clause-depth g c =
    let low = not_top c.args.tree.now.nodes c.args.tree.now.tree c.args.top c.args.here c.in-Some.parent c.requires.come c.if-here-top.false (sym c.in-Some.ensures) in
    IfSome_then c.next_past.result c.next_past.ensures.depth (λ r less. omega (arith, low, less))
