use Rattle.std.proofs.Common.{◌∙◌, ap, sym, Some}
use Rattle.std.specs.Prelude.{option_map}
use Rattle.jsonc_view.specs.Views.{value_there}
use Rattle.jsonc_view.proofs.Reading.{member_there}
use Rattle.jsonc_view.proofs.view.ViewObject.get.Goals as goal

pub place_of-requires : goal.place_of-requires
place_of-requires g c = c.args.self.now.shown

pub value_at-requires : goal.value_at-requires
value_at-requires g c =
    let o = c.args.self.now in
    let there = member_there o.rows.now o.members.now o.shown.0 c.in-Some.place _ o.shown.1 c.in-Some.ensures.place in
    (there.value, there.shown)

pub returns-in-Some : goal.returns-in-Some
returns-in-Some g c =
    let o = c.args.self.now in
    let there = member_there o.rows.now o.members.now o.shown.0 c.in-Some.place _ o.shown.1 c.in-Some.ensures.place in
    ap Some (c.value_at.ensures there.value there.shown) ∙ sym (ap (option_map (λ p. p.1)) there.at) ∙ ap (value_there o.shown.0) (sym c.in-Some.is) ∙ c.place_of.ensures.last o.shown.0 o.shown.1

pub returns-in-None : goal.returns-in-None
returns-in-None g c = let o = c.args.self.now in ap (value_there o.shown.0) (sym c.in-None.is) ∙ c.place_of.ensures.last o.shown.0 o.shown.1
