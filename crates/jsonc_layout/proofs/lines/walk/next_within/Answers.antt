use Rattle.std.proofs.Common.{◌+◌, arith}
use Rattle.jsonc_layout.proofs.lemmas.lines.WalkSteps.{come_down, passes_down, passes_inner, passes_leaf}
use Rattle.jsonc_layout.specs.lines.Walk.{depth_at, node_of}
use Rattle.jsonc_layout.proofs.lines.walk.next_within.Goals.{then-depth-bound+in_default, else-depth-bound}
use Rattle.jsonc_layout.proofs.lines.walk.next_within.Goals as goal

pub returns-in-Some-clause-passes : goal.returns-in-Some-clause-passes
returns-in-Some-clause-passes g c =
    let ns = c.args.tree.now.nodes in
    passes_down ns c.args.tree.now.tree c.args.top (depth_at ns c.args.top + c.args.bound) c.args.here c.in-Some.node c.requires.come c.in-Some.ensures

pub returns-in-Some-clause-come : goal.returns-in-Some-clause-come
returns-in-Some-clause-come g c = come_down c.args.tree.now.nodes c.args.tree.now.tree c.args.top c.args.here c.in-Some.node c.requires.come c.in-Some.ensures

pub returns-clause-passes : goal.returns-clause-passes
returns-clause-passes g c =
    let ns = c.args.tree.now.nodes in
    let tree = c.args.tree.now.tree in
    let come = c.requires.come in
    elim c.if-depth-bound.branch [
      | then-depth-bound+in_default w ↦
          passes_leaf ns tree c.args.top (depth_at ns c.args.top + c.args.bound) c.args.here.node (node_of c.next_past.result) come.in_tree w.in_default.ensures c.next_past.ensures.next
      | else-depth-bound w ↦
          passes_inner ns tree c.args.top (depth_at ns c.args.top + c.args.bound) c.args.here.node (node_of c.next_past.result) come.in_tree (omega (arith, w.if-depth-bound.false, come.depth)) c.next_past.ensures.next
    ]
