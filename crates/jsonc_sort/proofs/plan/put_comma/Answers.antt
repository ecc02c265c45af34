use Rattle.std.proofs.Common.{refl, ap, subst}
use Rattle.jsonc_tree.specs.Stored.{content_of}
use Rattle.jsonc_sort.specs.Plans.{GainsLeaf}
use Rattle.jsonc_sort.proofs.Planning.{comma_gained}
use Rattle.jsonc_sort.proofs.plan.put_comma.Goals as goal

pub returns-clause-gains : goal.returns-clause-gains
returns-clause-gains g c =
    comma_gained c.args.tree.now.nodes c.put_leaf.new.tree.nodes c.args.plan.now c.put_leaf.new.plan _ c.put_leaf.ensures.prepared.tree
    (subst (GainsLeaf c.args.tree.now.nodes c.args.plan.now c.put_leaf.new.tree.nodes c.put_leaf.new.plan) (ap content_of c.token.ensures) c.in_ok-put_leaf.ensures.gains) refl refl refl
