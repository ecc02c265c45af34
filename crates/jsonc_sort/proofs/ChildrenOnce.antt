-- A sorted row has no child of the row more often than the row: each sum over the children that stay is at most that over the row.
use Rattle.std.proofs.Common.{◌≡◌, ℕ, ◌+◌, ◌≤◌, Bool, true, false, ◌&&◌, List, [], ◌∷◌, ◌++◌, length, map, refl, arith}
use Rattle.std.specs.Prelude.{if◌then◌else◌, zip, IsPermutation}
use Rattle.std.specs.List.{range_with_len}
use Rattle.std.proofs.lemmas.List.Sorted.{length_permutation}
use Rattle.jsonc_tree.specs.Content.{Content, token, newline}
use Rattle.jsonc_tree.specs.declared.node.CstNewlineKind.{CstNewlineKind}
use Rattle.jsonc_sound.specs.Lines.{is_line_comment}
use Rattle.jsonc_sort.specs.Slots.{Slot, stays, comes, all_stay}
use Rattle.jsonc_sort.specs.Parts.{has_comma, is_comma_at, is_whitespace_at, parts}
use Rattle.jsonc_sort.specs.Leads.{blank_lines}
use Rattle.jsonc_sort.specs.Sorting.{Entry, Headers, ends_with_comma, entries, entry_at, goes_on, is_unchanged, lines_ended, no_entry, placed, placed_one, rearranged, row_end, slot_content, sorted, tail_with, travelling, without_comma}
use Rattle.jsonc_sort.proofs.Choices.{all_moved, choose}
use Rattle.jsonc_sort.proofs.Sums.{added, added_joined, added_map, added_moved, added_parted, both, entries_whole, kept, moved, parts_whole, zip_whole}

module _ (at : ℕ → Content) (f : ℕ → ℕ) where
  abbrev pub weight : Slot → ℕ
  weight (stays n) = f n
  weight (comes content) = 0

  abbrev pub own : List ℕ → ℕ
  own row = added f row

  abbrev pub total : List Slot → ℕ
  total slots = added weight slots

  stays_total : (row : List ℕ) → total (all_stay row) ≡ own row
  stays_total row = added_map weight stays row

  -- of what travels, and of a tail, some may leave
  travelling_most : (first : Bool) (row : List ℕ) → own (travelling at first row) ≤ own row
  travelling_most true row = omega (arith, added_parted f (blank_lines at row) row)
  travelling_most false row = omega arith

  without_comma_most : (tail : List ℕ) → own (without_comma at tail) ≤ own tail
  without_comma_most [] = omega arith
  without_comma_most (n ∷ []) = choose (λ l. own l ≤ f n + 0) (is_comma_at at n) [] (n ∷ []) (omega arith) (omega arith)
  without_comma_most (n ∷ m ∷ rest) =
      choose (λ l. own l ≤ f n + (f m + own rest)) (is_comma_at at n) (m ∷ rest) (if is_whitespace_at at n && is_comma_at at m then rest else n ∷ without_comma at (m ∷ rest))
      (omega arith)
      (choose (λ l. own l ≤ f n + (f m + own rest)) (is_whitespace_at at n && is_comma_at at m) rest (n ∷ without_comma at (m ∷ rest)) (omega arith) (omega (arith, without_comma_most (m ∷ rest))))

  tail_most : (comma : Bool) (tail : List ℕ) → total (tail_with at comma tail) ≤ own tail
  tail_most true tail = choose (λ l. total l ≤ own tail) (has_comma at tail) (all_stay tail) (comes (token 0x2C) ∷ all_stay tail) (omega (arith, stays_total tail)) (omega (arith, stays_total tail))
  tail_most false tail =
      choose (λ l. total l ≤ own tail) (has_comma at tail) (all_stay (without_comma at tail)) (all_stay tail) (omega (arith, stays_total (without_comma at tail), without_comma_most tail)) (omega (arith, stays_total tail))

  one_most : (first comma : Bool) (p : Entry × Entry) → total (placed_one at first comma p) ≤ both f p
  one_most first comma p =
      let front : List Slot = all_stay p.0.lead.front in
      let travels : List Slot = all_stay (travelling at first p.1.lead.travels) in
      let indent : List Slot = all_stay p.0.lead.indent in
      let last : List Slot = stays p.1.element ∷ tail_with at comma p.1.tail in
      omega (arith, added_joined weight (front ++ travels ++ indent) last, added_joined weight (front ++ travels) indent, added_joined weight front travels, stays_total p.0.lead.front, stays_total (travelling at first p.1.lead.travels), travelling_most first p.1.lead.travels, stays_total p.0.lead.indent, tail_most comma p.1.tail)

  placed_most : (first commas : Bool) (ps : List (Entry × Entry)) → total (placed at first commas ps) ≤ added (both f) ps
  placed_most first commas [] = omega arith
  placed_most first commas (p ∷ []) = omega (arith, one_most first commas p)
  placed_most first commas (p ∷ q ∷ rest) =
      omega (arith, added_joined weight (placed_one at first true p) (placed at false commas (q ∷ rest)), one_most first true p, placed_most false commas (q ∷ rest))

  rearranged_most : (es : List Entry) (order : List ℕ) → IsPermutation (range_with_len 0 (length es)) order → total (rearranged at es order) ≤ added (kept f) es + added (moved f) es
  rearranged_most es order p =
      let xs : List Entry = map (entry_at es) order in
      let moves : IsPermutation es xs = all_moved no_entry es order p in
      omega (arith, placed_most true (ends_with_comma at es) (zip es xs), zip_whole f es xs (length_permutation es xs moves), added_moved (moved f) es xs moves)

  lines_same : (kind : CstNewlineKind) (row : List Slot) → total (lines_ended at kind row) ≡ total row
  lines_same kind [] = refl
  lines_same kind (slot ∷ row) =
      choose (λ l. total l ≡ weight slot + total row) (is_line_comment (slot_content at slot) && goes_on at row) (slot ∷ comes (newline kind) ∷ lines_ended at kind row) (slot ∷ lines_ended at kind row)
      (omega (arith, lines_same kind row)) (omega (arith, lines_same kind row))

  pub sorted_most : (kind : CstNewlineKind) (h : Headers) (row order : List ℕ) → IsPermutation (range_with_len 0 (length (entries at h row))) order → total (sorted at kind h row order) ≤ own row
  sorted_most kind h row order p =
      let es : List Entry = entries at h row in
      choose (λ l. total l ≤ own row) (is_unchanged order) (all_stay row) (lines_ended at kind (rearranged at es order ++ all_stay (row_end at row)))
      (omega (arith, stays_total row))
      (omega (arith, lines_same kind (rearranged at es order ++ all_stay (row_end at row)), added_joined weight (rearranged at es order) (all_stay (row_end at row)), rearranged_most es order p, stays_total (row_end at row), entries_whole f at h.groups h.pinned (parts at row).lead (parts at row).rest, parts_whole f at row))
