use Rattle.std.proofs.Common.{◌≡◌, ◌+◌, suc, slice_get, arith, sym, ap, ◌∙◌}
use Rattle.jsonc_tree.specs.Tree.{children_at}
use Rattle.jsonc_tree.specs.Stored.{nodes_of}
use Rattle.jsonc_tree.proofs.LinkSteps.{next_step}
use Rattle.jsonc_tree.proofs.walk.child_from.Goals as goal

pub loop-i-preserved : goal.loop-i-preserved
loop-i-preserved g c =
    let one : suc c.loop-i._i ≡ c.loop-i._i + 1 = omega arith in
    c.next_of-at.ensures ∙ next_step c.args.nodes.now.items c.requires.stored c.args.c c.loop-i._i c.in-Some.n (sym c.loop-i.invariant ∙ c.in-Some.is) ∙ ap (slice_get (children_at (nodes_of c.args.nodes.now.items) c.args.c)) one
