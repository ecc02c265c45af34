use Rattle.std.proofs.Common.{rules, ◌≡◌, [], ◌∷◌, length, arith, ap, sym, subst, ◌∙◌}
use Rattle.jsonc_tree.specs.Stored.{chain, Stands}
use Rattle.jsonc_tree.proofs.AgreeingLinks.{length_shown}
use Rattle.jsonc_tree.proofs.LinkSteps.{chain_none, chain_step}
use Rattle.jsonc_tree.proofs.siblings.ChildrenIterator.next.Goals as goal

pub returns-in_default-clause-steps : goal.returns-in_default-clause-steps
returns-in_default-clause-steps g c =
    let items = c.self.inside.nodes.now.items in
    let over : c.args.self.now ≡ [] = sym c.self.view_is ∙ ap (chain (length items) items) c.in_default.is ∙ chain_none items c.self.invariant.0 (length items) in
    (over, over)

pub next_of-self-inside-requires : goal.next_of-self-inside-requires
next_of-self-inside-requires g c =
    let items = c.self.inside.nodes.now.items in
    let step = chain_step items c.self.invariant.0 c.in-Some.n (subst (Stands items) c.in-Some.is c.self.invariant.1) in
    omega (arith, step.2, length_shown items, c.self.inside.nodes.now.ok.0)

pub invariant_of-self : goal.invariant_of-self
invariant_of-self g c =
    let items = c.self.inside.nodes.now.items in
    let step = chain_step items c.self.invariant.0 c.in-Some.n (subst (Stands items) c.in-Some.is c.self.invariant.1) in
    (c.self.invariant.0, subst (Stands items) (sym c.next_of-self-inside.ensures) step.1)

pub returns-clause-steps : goal.returns-clause-steps
returns-clause-steps g c =
    let items = c.self.inside.nodes.now.items in
    let step = chain_step items c.self.invariant.0 c.in-Some.n (subst (Stands items) c.in-Some.is c.self.invariant.1) in
    sym c.self.view_is ∙ ap (chain (length items) items) c.in-Some.is ∙ step.0 ∙ ap (λ o. c.in-Some.n ∷ chain (length items) items o) (sym c.next_of-self-inside.ensures)

pub returns-clause-goes : goal.returns-clause-goes
returns-clause-goes g c =
    let steps = returns-clause-steps g c in
    search rules
