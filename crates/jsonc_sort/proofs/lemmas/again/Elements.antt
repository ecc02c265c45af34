-- The elements of a row that is sorted are those of the row, in the order.
use Rattle.std.proofs.Common.{◌≡◌, ℕ, zero, suc, inl, inr, List, [], ◌∷◌, ◌++◌, length, map, filter, refl, sym, ap, ◌∙◌}
use Rattle.std.specs.Prelude.{slice_index, IsPermutation}
use Rattle.std.specs.List.{range_with_len}
use Rattle.std.proofs.lemmas.Bool.{cases_Bool}
use Rattle.jsonc_tree.specs.Content.{Content}
use Rattle.jsonc_tree.specs.declared.node.CstNewlineKind.{CstNewlineKind}
use Rattle.jsonc_layout.specs.nodes.Kinds.{is_element}
use Rattle.jsonc_sort.specs.Slots.{Slot, stays, comes, all_stay}
use Rattle.jsonc_sort.specs.Sorting.{Entry, Headers, entries, entry_at, lines_ended, rearranged, row_end}
use Rattle.jsonc_sort.proofs.Values.{elements, mapped, moved_elements, row_elements}

-- the number in a place, and that of an entry's element
abbrev number_in : Slot → ℕ
number_in (stays n) = n
number_in (comes content) = 0

abbrev pub number_of_entry : Entry → ℕ
number_of_entry e = e.element

numbers_stay : (xs : List ℕ) → map number_in (all_stay xs) ≡ xs
numbers_stay [] = refl
numbers_stay (x ∷ xs) = ap (λ l. x ∷ l) (numbers_stay xs)

numbers_map : (es : List Entry) → map number_in (map (λ e. stays e.element) es) ≡ map number_of_entry es
numbers_map [] = refl
numbers_map (e ∷ es) = ap (λ l. e.element ∷ l) (numbers_map es)

entries_stay : (es : List Entry) → map (λ e. stays e.element) es ≡ all_stay (map number_of_entry es)
entries_stay [] = refl
entries_stay (e ∷ es) = ap (λ l. stays e.element ∷ l) (entries_stay es)

-- entries by their numbers
entry_picked : (es : List Entry) (i : ℕ) → (entry_at es i).element ≡ slice_index (map number_of_entry es) i
entry_picked [] i = refl
entry_picked (e ∷ es) zero = refl
entry_picked (e ∷ es) (suc i) = entry_picked es i

entries_picked : (es : List Entry) (order : List ℕ) → map number_of_entry (map (entry_at es) order) ≡ map (slice_index (map number_of_entry es)) order
entries_picked es [] = refl
entries_picked es (i ∷ order) =
    ap (λ (n : ℕ). n ∷ map number_of_entry (map (entry_at es) order)) (entry_picked es i) ∙ ap (λ l. slice_index (map number_of_entry es) i ∷ l) (entries_picked es order)

module _ (at : ℕ → Content) where
  -- the elements of a row stay as they are listed
  row_own : (row : List ℕ) → elements at (all_stay row) ≡ all_stay (filter (λ n. is_element (at n)) row)
  row_own [] = refl
  row_own (n ∷ row) = elim (cases_Bool (is_element (at n))) [ inl e ↦ rw e (ap (λ l. stays n ∷ l) (row_own row)) | inr e ↦ rw e (row_own row) ]

  -- and those of its entries are they
  pub entry_elements : (h : Headers) (row : List ℕ) → filter (λ n. is_element (at n)) row ≡ map number_of_entry (entries at h row)
  entry_elements h row =
      sym (numbers_stay (filter (λ n. is_element (at n)) row)) ∙ ap (map number_in) (sym (row_own row) ∙ row_elements at h row) ∙ numbers_map (entries at h row)

  -- in the sorted row they come in the order
  pub elements_in_order : (k : CstNewlineKind) (h : Headers) (row order : List ℕ) → IsPermutation (range_with_len 0 (length (entries at h row))) order
      → elements at (lines_ended at k (rearranged at (entries at h row) order ++ all_stay (row_end at row))) ≡ all_stay (map (slice_index (filter (λ n. is_element (at n)) row)) order)
  elements_in_order k h row order p =
      moved_elements at k h row order p ∙ sym (mapped at (entries at h row) order) ∙ entries_stay (map (entry_at (entries at h row)) order)
      ∙ ap all_stay (entries_picked (entries at h row) order ∙ ap (λ (l : List ℕ). map (slice_index l) order) (sym (entry_elements h row)))
