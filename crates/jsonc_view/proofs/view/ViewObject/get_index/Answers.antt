use Rattle.std.proofs.Common.{◌∙◌, sym, arith, Some}
use Rattle.jsonc_view.proofs.Reading.{member_there, no_member_there}
use Rattle.jsonc_view.proofs.view.ViewObject.get_index.Goals as goal

pub returns-then-index-count : goal.returns-then-index-count
returns-then-index-count g c =
    let o = c.args.self.now in
    sym (no_member_there o.rows.now o.members.now o.shown.0 c.args.index o.shown.1 (omega (arith, c.if-index-count.true)))

pub name_at-name-requires : goal.name_at-name-requires
name_at-name-requires g c =
    let o = c.args.self.now in
    let there = member_there o.rows.now o.members.now o.shown.0 c.args.index _ o.shown.1 (omega (arith, c.if-index-count.false)) in
    (there.name, there.named)

pub value_at-requires : goal.value_at-requires
value_at-requires g c =
    let o = c.args.self.now in
    let there = member_there o.rows.now o.members.now o.shown.0 c.args.index _ o.shown.1 (omega (arith, c.if-index-count.false)) in
    (there.value, there.shown)

pub returns : goal.returns
returns g c =
    let o = c.args.self.now in
    let there = member_there o.rows.now o.members.now o.shown.0 c.args.index _ o.shown.1 (omega (arith, c.if-index-count.false)) in
    (λ j. Some (c.name_at-name.ensures there.name there.named j, c.value_at.ensures there.value there.shown j)) ∙ sym there.at
