use Rattle.std.proofs.Common.{◌∙◌, ap, sym, arith, Some}
use Rattle.jsonc_view.proofs.Reading.{item_there, no_item_there}
use Rattle.jsonc_view.proofs.view.ViewArray.get.Goals as goal

pub returns-then-index-count : goal.returns-then-index-count
returns-then-index-count g c =
    let a = c.args.self.now in
    sym (no_item_there a.rows.now a.elements.now a.shown.0 c.args.index a.shown.1 (omega (arith, c.if-index-count.true)))

pub value_at-requires : goal.value_at-requires
value_at-requires g c =
    let a = c.args.self.now in
    let there = item_there a.rows.now a.elements.now a.shown.0 c.args.index _ a.shown.1 (omega (arith, c.if-index-count.false)) in
    (there.value, there.shown)

pub returns : goal.returns
returns g c =
    let a = c.args.self.now in
    let there = item_there a.rows.now a.elements.now a.shown.0 c.args.index _ a.shown.1 (omega (arith, c.if-index-count.false)) in
    ap Some (c.value_at.ensures there.value there.shown) ∙ sym there.at
