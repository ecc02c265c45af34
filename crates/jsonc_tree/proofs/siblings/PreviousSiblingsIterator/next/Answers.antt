use Rattle.std.proofs.Common.{rules, ◌≡◌, [], ◌∷◌, length, arith, ap, sym, subst, ◌∙◌}
use Rattle.jsonc_tree.specs.Stored.{chain_back, StandsBefore}
use Rattle.jsonc_tree.proofs.AgreeingLinks.{length_shown}
use Rattle.jsonc_tree.proofs.LinkedRows.{back_over, back_step}
use Rattle.jsonc_tree.proofs.siblings.PreviousSiblingsIterator.next.Goals as goal

pub returns-in_default-clause-steps : goal.returns-in_default-clause-steps
returns-in_default-clause-steps g c =
    let items = c.self.inside.nodes.now.items in
    let over : c.args.self.now ≡ [] = sym c.self.view_is ∙ back_over items c.self.invariant.0 c.self.inside.next c.in_default.is in
    (over, over)

pub previous_of-self-inside-requires : goal.previous_of-self-inside-requires
previous_of-self-inside-requires g c =
    let items = c.self.inside.nodes.now.items in
    let step = back_step items c.self.invariant.0 c.in-Some.n (subst (StandsBefore items) c.in-Some.is c.self.invariant.1) in
    omega (arith, step.2, length_shown items, c.self.inside.nodes.now.ok.0)

pub invariant_of-self : goal.invariant_of-self
invariant_of-self g c =
    let items = c.self.inside.nodes.now.items in
    let step = back_step items c.self.invariant.0 c.in-Some.n (subst (StandsBefore items) c.in-Some.is c.self.invariant.1) in
    (c.self.invariant.0, subst (StandsBefore items) (sym c.previous_of-self-inside.ensures) step.1)

pub returns-clause-steps : goal.returns-clause-steps
returns-clause-steps g c =
    let items = c.self.inside.nodes.now.items in
    let step = back_step items c.self.invariant.0 c.in-Some.n (subst (StandsBefore items) c.in-Some.is c.self.invariant.1) in
    sym c.self.view_is ∙ ap (chain_back (length items) items) c.in-Some.is ∙ step.0 ∙ ap (λ o. c.in-Some.n ∷ chain_back (length items) items o) (sym c.previous_of-self-inside.ensures)

pub returns-clause-goes : goal.returns-clause-goes
returns-clause-goes g c =
    let steps = returns-clause-steps g c in
    search rules
