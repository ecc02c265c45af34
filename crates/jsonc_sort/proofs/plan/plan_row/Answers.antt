use Rattle.std.proofs.Common.{◌≡◌, ◌<◌, ◌-◌, ℕ, List, length, slice_index, true, refl, subst, ◌∙◌, ap, arith, drop}
use Rattle.std.proofs.lemmas.List.{get_or_default, take_rest}
use Rattle.std.specs.Prelude.{slice_index_or}
use Rattle.jsonc_tree.specs.Tree.{content_at}
use Rattle.jsonc_sort.specs.Plans.{Gains}
use Rattle.jsonc_sort.specs.Slots.{all_stay}
use Rattle.jsonc_sort.specs.declared.places.Places.{Places}
use Rattle.jsonc_sort.proofs.PlannedRow.{all_within, entry_planned, order_long, row_is_planned, started}
use Rattle.jsonc_sort.proofs.plan.plan_row.Goals as goal

pub end_after-requires : goal.end_after-requires
end_after-requires g c = all_within (content_at c.args.tree.now.nodes) c.args.row.now c.args.entries.now c.requires.read

pub number_at-number-requires-clause-place : goal.number_at-number-requires-clause-place
number_at-number-requires-clause-place g c = omega (arith, order_long (length c.args.entries.now) c.args.order.now c.requires.order, c.loop-place.invariant.within)

pub loop-place-init : goal.loop-place-init
loop-place-init g c =
    started c.args.tree.now.nodes c.args.newline c.args.row.now c.args.entries.now c.args.order.now c.requires.in_tree c.requires.read (order_long (length c.args.entries.now) c.args.order.now c.requires.order) c.ends_with_comma-commas.result c.put_stretch.new.tree.nodes
    (record { newline = c.args.newline; nodes = c.new.result; goes_on = true }) c.put_stretch.new.plan (length c.args.entries.now) c.args.tree.now.tree refl refl c.new.ensures.items
    (subst (λ l. Gains c.args.tree.now.nodes (record { newline = c.args.newline; nodes = c.new.result; goes_on = true }) c.put_stretch.new.tree.nodes c.put_stretch.new.plan (all_stay l)) (take_rest c.args.row.now c.end_after.result ∙ ap (λ k. drop k c.args.row.now) c.end_after.ensures.end) c.in_ok-put_stretch.ensures.gains) c.put_stretch.ensures.prepared refl

pub loop-place-preserved : goal.loop-place-preserved
loop-place-preserved g c =
    let ps : List Places = c.args.entries.now in
    let none : Places = record { lead = 0; travels = 0; solid = 0; indent = 0; element = 0; comma = 0; behind = 0; end = 0 } in
    let k : ℕ = c.loop-place.place - 1 in
    let number : ℕ = c.number_at-number.result in
    let is : number ≡ slice_index c.args.order.now k = c.number_at-number.ensures.number in
    let below : number < length ps = c.number_at-number.ensures.within in
    let chosen : slice_index c.args.order.now k < length ps = subst (λ n. n < length ps) is below in
    entry_planned c.args.tree.now.nodes c.args.newline c.args.row.now ps c.args.order.now c.requires.in_tree c.requires.read (order_long (length ps) c.args.order.now c.requires.order) c.ends_with_comma-commas.result c.comma_before-comma.result c.loop-place.tree.nodes c.put_entry.new.tree.nodes
    c.loop-place.plan c.put_entry.new.plan c.loop-place.place (slice_index_or ps k none) (slice_index_or ps number none) c.loop-place.invariant c.loop-place-test.true chosen
    (get_or_default ps k none (slice_index_or ps k none) (omega (arith, c.loop-place.invariant.within)))
    (ap (λ n. slice_index_or ps n none) is ∙ get_or_default ps (slice_index c.args.order.now k) none (slice_index_or ps number none) chosen)
    c.comma_before-comma.ensures c.in_ok-put_entry.ensures.gains c.put_entry.ensures.prepared

pub returns-clause-planned : goal.returns-clause-planned
returns-clause-planned g c =
    row_is_planned c.args.tree.now.nodes c.args.newline c.args.row.now c.args.entries.now c.args.order.now c.requires.in_tree c.requires.read (order_long (length c.args.entries.now) c.args.order.now c.requires.order) c.ends_with_comma-commas.result c.loop-place.tree.nodes c.loop-place.plan c.loop-place.place
    c.ends_with_comma-commas.ensures c.loop-place.invariant (omega arith) c.reverse.new.self.items c.reverse.ensures.items
