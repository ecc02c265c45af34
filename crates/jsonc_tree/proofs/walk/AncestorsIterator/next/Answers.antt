use Rattle.std.proofs.Common.{rules, ◌≡◌, ◌<◌, [], ◌∷◌, List, length, IfSome, arith, ap, sym, subst, ◌∙◌, vec_len}
use Rattle.jsonc_tree.specs.Tree as tree
use Rattle.jsonc_tree.specs.Tree.{parent_at}
use Rattle.jsonc_tree.specs.Order.{upward}
use Rattle.jsonc_tree.specs.Stored.{nodes_of}
use Rattle.jsonc_tree.proofs.AgreeingLinks.{length_shown}
use Rattle.jsonc_tree.proofs.Order.{upward_is, upward_none, parent_within}
use Rattle.jsonc_tree.proofs.walk.AncestorsIterator.next.Goals as goal

pub returns-in_default-clause-steps : goal.returns-in_default-clause-steps
returns-in_default-clause-steps g c =
    let ns : List tree.Node = nodes_of c.self.inside.nodes.now.items in
    let over : c.args.self.now ≡ [] = sym c.self.view_is ∙ ap (upward ns) c.in_default.is ∙ upward_none ns c.self.invariant.0.tree in
    (over, over)

pub invariant_of-self : goal.invariant_of-self
invariant_of-self g c =
    let items = c.self.inside.nodes.now.items in
    (c.self.invariant.0, parent_within (nodes_of c.self.inside.nodes.now.items) c.self.invariant.0.tree c.in-Some.n (vec_len c.self.inside.nodes.now) c.parent_in-self-inside.result c.parent_in-self-inside.ensures (length_shown c.self.inside.nodes.now.items ∙ sym c.self.inside.nodes.now.ok.0))

pub returns-clause-steps : goal.returns-clause-steps
returns-clause-steps g c =
    let ns : List tree.Node = nodes_of c.self.inside.nodes.now.items in
    let was = subst (λ o. IfSome o (λ n. n < vec_len c.self.inside.nodes.now)) c.in-Some.is c.self.invariant.1 in
    let there : c.in-Some.n < length ns = omega (arith, was, length_shown c.self.inside.nodes.now.items, c.self.inside.nodes.now.ok.0) in
    sym c.self.view_is ∙ ap (upward ns) c.in-Some.is
    ∙ upward_is ns c.self.invariant.0.tree c.in-Some.n there
    ∙ ap (λ o. c.in-Some.n ∷ upward ns o) (sym c.parent_in-self-inside.ensures)

pub returns-clause-goes : goal.returns-clause-goes
returns-clause-goes g c =
    let steps = returns-clause-steps g c in
    search rules
