use Rattle.std.proofs.Common.{◌≡◌, ◌<◌, ◌+◌, ◌↔◌, ℕ, true, ap, subst, arith}
use Rattle.jsonc_text.specs.Plain.{around}
use Rattle.jsonc_layout.specs.input.Views.{plain}
use Rattle.jsonc_edit.specs.Paths.{IsAt}
use Rattle.jsonc_insert.specs.named.Places.{IsPropertyAt}
use Rattle.jsonc_run.specs.Depth.{nesting_at}
use Rattle.jsonc_run.specs.Edits.{operation_of, unsorted}
use Rattle.jsonc_run.proofs.Rooms.{found_there, of_edit, of_path}
use Rattle.jsonc_run.proofs.depth.is_too_deep.Goals as goal

pub returns-in-Replace : goal.returns-in-Replace
returns-in-Replace g c =
    let ns = c.args.tree.now.nodes in
    let r = c.is_deep_below.result in
    let deep = around (plain c.in-Replace.value) in
    let path = c.deref.result.now in
    let there = found_there c.find.result (IsAt ns path) (λ n. 512 < nesting_at ns n + (0 + deep)) r c.find.ensures.found c.is_deep_below.ensures in
    let none : 0 + deep ≡ deep = omega arith in
    let here = subst (λ k. (r ≡ true) ↔ ((n : ℕ) × IsAt ns path n × (512 < nesting_at ns n + k))) none there in
    of_edit ns r (ap (operation_of unsorted) c.in-Replace.is) (of_path r (IsAt ns) (λ n. 512 < nesting_at ns n + deep) c.deref.ensures.value here)

pub returns-in-ReplaceProperty : goal.returns-in-ReplaceProperty
returns-in-ReplaceProperty g c =
    let ns = c.args.tree.now.nodes in
    let r = c.is_deep_below-in-ReplaceProperty.result in
    let deep = around (plain c.in-ReplaceProperty.value) in
    let there = found_there c.find_property.result (IsPropertyAt ns c.deref-in-ReplaceProperty.result.now) (λ n. 512 < nesting_at ns n + (1 + deep)) r c.find_property.ensures.found c.is_deep_below-in-ReplaceProperty.ensures in
    of_edit ns r (ap (operation_of unsorted) c.in-ReplaceProperty.is) (of_path r (IsPropertyAt ns) (λ n. 512 < nesting_at ns n + (1 + deep)) c.deref-in-ReplaceProperty.ensures.value there)
