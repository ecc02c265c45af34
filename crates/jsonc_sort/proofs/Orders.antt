-- Orders that change nothing.
use Rattle.std.proofs.Common.{◌≡◌, ◌≢◌, ℕ, ◌+◌, ◌<◌, Bool, true, false, not, ◌&&◌, refl, inl, inr, List, length, slice_index, sym, ap, ◌∙◌, arith}
use Rattle.std.specs.List.{range_with_len}
use Rattle.std.proofs.lemmas.Bool.{cases_Bool}
use Rattle.std.proofs.lemmas.List.{ext_get_or}
use Rattle.std.proofs.lemmas.List.FromFn.{get_or-range_with_len, length-range_with_len}
use Rattle.std.proofs.lemmas.Slice.Eq.{bytes_eq-Decides}
use Rattle.jsonc_tree.specs.Tree.{Node}
use Rattle.jsonc_layout.specs.nodes.Siblings.{elements_at}
use Rattle.jsonc_edit.specs.remove.Removed.{has_brackets}
use Rattle.jsonc_sort.specs.Paths.{FewStay}
use Rattle.jsonc_sort.specs.Sorting.{Headers, is_unchanged}
use Rattle.jsonc_sort.proofs.PlannedRow.{order_below, order_long}

pub zero_more : (k : ℕ) → 0 + k ≡ k
zero_more k = omega arith

module _ (order : List ℕ) where
  pub order_changed : (k : ℕ) → k < length order → slice_index order k ≢ k → false ≡ is_unchanged order
  order_changed k h ne =
      elim (cases_Bool (is_unchanged order)) [
        | inl e ↦ absurd (
            let same : order ≡ range_with_len 0 (length order) = (bytes_eq-Decides order (range_with_len 0 (length order))).0 e in
            ne (ap (λ l. slice_index l k) same ∙ get_or-range_with_len 0 (length order) k 0 h ∙ zero_more k)
            )
        | inr e ↦ sym e
      ]

  pub order_unchanged : ((k : ℕ) → k < length order → slice_index order k ≡ k) → true ≡ is_unchanged order
  order_unchanged h =
      let same : order ≡ range_with_len 0 (length order) =
      ext_get_or 0 order (range_with_len 0 (length order)) (sym (length-range_with_len 0 (length order))) (λ k l. h k l ∙ sym (get_or-range_with_len 0 (length order) k 0 l ∙ zero_more k)) in
      sym ((bytes_eq-Decides order (range_with_len 0 (length order))).1 same)

-- an order of less than two numbers is the old one
pub not_moved : (a b : Bool) → b ≡ true → (a && not b) ≡ false
not_moved true b e = ap not e
not_moved false b e = refl

pub few_stay : (old new : List Node) (c : ℕ) (h : Headers) (order : List ℕ) → FewStay old new c h order
few_stay old new c h order few perm made =
    let n : ℕ = length (elements_at old c) in
    let long : length order ≡ n = order_long n order perm in
    let same : true ≡ is_unchanged order = order_unchanged order (λ k l. let below : slice_index order k < n = order_below n order perm k l in omega (arith, below, l, long, few)) in
    made.was (not_moved (has_brackets old c) (is_unchanged order) (sym same))
