use Rattle.std.proofs.Common.{sym, ◌∙◌}
use Rattle.jsonc_tree.specs.Tree.{itself}
use Rattle.jsonc_run.proofs.Numbered.{all_before, found_here}
use Rattle.jsonc_run.proofs.places.find_comment.Goals as goal

pub loop-next-init : goal.loop-next-init
loop-next-init g c = record { in_tree = c.args.tree.now.tree.first; over = itself; left = all_before c.args.tree.now.nodes c.args.tree.now.tree c.args.number }

pub returns-then-left-eq0-clause-found : goal.returns-then-left-eq0-clause-found
returns-then-left-eq0-clause-found g c =
    found_here c.args.tree.now.nodes c.args.tree.now.tree c.in-Some.node c.loop-next.left c.args.number c.loop-next.next c.in-Some.is c.if-left-eq0.true c.loop-next.invariant.in_tree
    (sym c.is_comment.ensures ∙ c.if-is_comment.true) c.loop-next.invariant.left
