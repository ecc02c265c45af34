use Rattle.std.proofs.Common.{rules, ◌≡◌, ◌<◌, ◌∷◌, ◌∙◌, length, arith, sym}
use Rattle.jsonc_view.specs.declared.rows.Name.TheVariants as name
use Rattle.jsonc_view.specs.declared.rows.Row.TheVariants.{Null}
use Rattle.jsonc_view.specs.Lists.{pairs_of}
use Rattle.jsonc_view.specs.Unique.{one_members}
use Rattle.jsonc_view.proofs.Reading.{first_member, no_first_member}
use Rattle.jsonc_view.proofs.view.iter.ViewPropertiesIterator.next.Goals as goal

pub invariant_of-self : goal.invariant_of-self
invariant_of-self g c =
    let s = c.args.self.now in
    let there = first_member s.rows.now s.rest.now s.shown.0 (record { name = name.Decoded 0; value = Null }) s.shown.1 (omega (arith, c.if-count-eq0.false)) in
    record { shown = (there.others, there.left) }

pub name_at-name-requires : goal.name_at-name-requires
name_at-name-requires g c =
    let s = c.args.self.now in
    let there = first_member s.rows.now s.rest.now s.shown.0 _ s.shown.1 (omega (arith, c.if-count-eq0.false)) in
    (there.name, there.named)

pub value_at-requires : goal.value_at-requires
value_at-requires g c =
    let s = c.args.self.now in
    let there = first_member s.rows.now s.rest.now s.shown.0 _ s.shown.1 (omega (arith, c.if-count-eq0.false)) in
    (there.value, there.shown)

pub returns-clause-steps : goal.returns-clause-steps
returns-clause-steps g c =
    let s = c.args.self.now in
    let there = first_member s.rows.now s.rest.now s.shown.0 _ s.shown.1 (omega (arith, c.if-count-eq0.false)) in
    there.is
    ∙ (λ j. (sym (c.name_at-name.ensures there.name there.named) j, sym (c.value_at.ensures there.value there.shown) j) ∷ pairs_of (one_members s.rows.now _ there.others c.self-2-1.given.0.0 there.left c.self-2-1.given.0.1 j))

pub returns-clause-goes : goal.returns-clause-goes
returns-clause-goes g c =
    let steps = returns-clause-steps g c in
    search rules
