-- Elements that are put in an order: what becomes of a document and its nodes.
use Rattle.std.proofs.Common.{◌≡◌, ℕ, Bool, true, List, IsTrue, inl, inr}
use Rattle.std.proofs.lemmas.Bool.{cases_Bool}
use Rattle.jsonc_tree.specs.Tree.{Node, content_at, IsTree}
use Rattle.jsonc_layout.specs.lines.Kinds.{is_array_or_object}
use Rattle.jsonc_sort.specs.Above.{PinsUnderBlankLines}
use Rattle.jsonc_sort.specs.Rearranged.{moves, IsOrderIn, Rearranged}
use Rattle.jsonc_sort.specs.Sorting.{Headers}
use Rattle.jsonc_sort.proofs.Orders.{few_stay}
use Rattle.jsonc_edit.specs.Paths.{IsAt}
use Rattle.jsonc_run.specs.promise.Steps.{IsStep}
use Rattle.jsonc_run.specs.Edits.{rearrange}
use Rattle.jsonc_edit.proofs.lemmas.commas.Holders.{holder_path}
use Rattle.jsonc_run.proofs.lemmas.promise.NodePlaces.{made_step}
use Rattle.jsonc_run.proofs.DetachedNodes.{order_elsewhere}
use Rattle.jsonc_cst.proofs.lemmas.typed.HandlesKept.{Stays, stay_both, stay_kept, stay_same, stay_spliced}
use Rattle.jsonc_cst.specs.sorting.Sorted.{IsPlaced}

module _ (old new : List Node) (c : ℕ) (h : Headers) (order : List ℕ) (before : IsTree old) (after : IsTree new) (holds : IsTrue (is_array_or_object (content_at old c))) (all : IsOrderIn old c order) where
  step : Rearranged old new c h order → (by_blank_lines : Bool) → (by_blank_lines ≡ true → PinsUnderBlankLines old c h) → IsStep IsAt (λ path. rearrange by_blank_lines path h order) old new c
  step made by_blank_lines pins =
      made_step old new before after IsAt (λ path. rearrange by_blank_lines path h order) c (λ path. tt) (λ o sound over. holder_path o old before sound c over holds)
      (λ path over at. (c, (at, holds), (all, made, pins)))

  pub is_placed : Rearranged old new c h order → IsPlaced old new c h order
  is_placed made = record { all = all; made = made; few = λ less. few_stay old new c h order less all made; detached = order_elsewhere old before new c h order after made; step = step made }

  pub rearranged_stays : Rearranged old new c h order → Stays old new
  rearranged_stays made =
      elim (cases_Bool (moves old c order)) [
        | inl is ↦ let row = made.is is in stay_both old row.ready new (stay_kept old row.ready row.prepared.keeps) (stay_spliced row.ready new _ _ _ _ row.put)
        | inr other ↦ stay_same old new (made.was other)
      ]
