use Rattle.std.proofs.Common.{◌∙◌}
use Rattle.jsonc_layout.proofs.lemmas.nodes.Walks.{all_pushed, pushed_on}
use Rattle.jsonc_layout.proofs.nodes.within.push_children.Goals as goal

pub loop-child-preserved : goal.loop-child-preserved
loop-child-preserved g c =
    pushed_on c.loop-child.list.items c.push.new.self.items c.loop-child.child-iterator c.next.new.self c.in-Some.child c.in_ok-push.ensures.items c.in-Some.ensures.steps ∙ c.loop-child.invariant

pub returns : goal.returns
returns g c = all_pushed c.loop-child.list.items c.loop-child.child-iterator _ c.loop-child.invariant c.in-None.ensures.steps.0
