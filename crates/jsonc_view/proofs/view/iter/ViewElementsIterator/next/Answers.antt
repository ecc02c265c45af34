use Rattle.std.proofs.Common.{rules, ◌≡◌, ◌<◌, ◌∷◌, ◌∙◌, length, arith, sym}
use Rattle.jsonc_view.specs.declared.rows.Row.TheVariants.{Null}
use Rattle.jsonc_view.specs.Lists.{list_of}
use Rattle.jsonc_view.specs.Unique.{one_items}
use Rattle.jsonc_view.specs.Views.{plain}
use Rattle.jsonc_view.proofs.Reading.{first_item, no_first_item}
use Rattle.jsonc_view.proofs.view.iter.ViewElementsIterator.next.Goals as goal

pub invariant_of-self : goal.invariant_of-self
invariant_of-self g c =
    let s = c.args.self.now in
    let there = first_item s.rows.now s.rest.now s.shown.0 Null s.shown.1 (omega (arith, c.if-count-eq0.false)) in
    record { shown = (there.others, there.left) }

pub value_at-requires : goal.value_at-requires
value_at-requires g c =
    let s = c.args.self.now in
    let there = first_item s.rows.now s.rest.now s.shown.0 _ s.shown.1 (omega (arith, c.if-count-eq0.false)) in
    (there.value, there.shown)

pub returns-clause-steps : goal.returns-clause-steps
returns-clause-steps g c =
    let s = c.args.self.now in
    let there = first_item s.rows.now s.rest.now s.shown.0 _ s.shown.1 (omega (arith, c.if-count-eq0.false)) in
    there.is ∙ (λ j. sym (c.value_at.ensures there.value there.shown) j ∷ list_of (one_items s.rows.now _ there.others c.self-2-1.given.0.0 there.left c.self-2-1.given.0.1 j))

pub returns-clause-goes : goal.returns-clause-goes
returns-clause-goes g c =
    let steps = returns-clause-steps g c in
    search rules
