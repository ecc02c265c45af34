-- What a sort keeps of a row: each sum over its nodes to which whitespace, ends of lines and commas add nothing.
use Rattle.std.proofs.Common.{◌≡◌, ℕ, zero, suc, ◌+◌, ◌≤◌, Bool, true, false, ◌&&◌, ◌||◌, List, [], ◌∷◌, ◌++◌, length, map, drop, filter, Option, IsTrue, refl, sym, ap, subst, ◌∙◌, arith, inl, inr, length-take}
use Rattle.std.specs.Prelude.{if◌then◌else◌, zip, IsPermutation}
use Rattle.std.specs.List.{prefix_len, range_with_len, take_while}
use Rattle.std.proofs.lemmas.Bool.{cases_Bool}
use Rattle.std.proofs.lemmas.List.Sorted.{length_permutation}
use Rattle.jsonc_text.proofs.Basics.{or_right, or_left}
use Rattle.jsonc_tree.specs.Content.{Content, token, newline}
use Rattle.jsonc_tree.specs.OrderedTree.{Top, none}
use Rattle.jsonc_tree.specs.declared.node.CstNewlineKind.{CstNewlineKind}
use Rattle.jsonc_layout.specs.nodes.Kinds.{is_element, is_newline, is_whitespace, is_comma}
use Rattle.jsonc_sound.specs.Lines.{is_line_comment}
use Rattle.jsonc_sort.specs.Slots.{Slot, stays, comes, all_stay, top_in}
use Rattle.jsonc_sort.specs.Parts.{Part, Parts, has_comma, is_comma_at, is_whitespace_at, parts}
use Rattle.jsonc_sort.specs.Leads.{blank_lines, is_blank_at}
use Rattle.jsonc_sort.specs.Sorting.{Entry, Headers, ends_with_comma, entries, entries_from, entry_at, goes_on, is_unchanged, lines_ended, no_entry, placed, placed_one, rearranged, row_end, slot_content, sorted, tail_with, travelling, without_comma}
use Rattle.jsonc_sort.specs.Laws.{IsOrderOf, content_of, is_filling}
use Rattle.jsonc_sort.proofs.Choices.{all_moved, choose, choose_by}
use Rattle.jsonc_sort.proofs.Sums.{added, added_joined, added_map, added_moved, both, entries_whole, kept, moved, parts_whole, zip_whole}

blank_filling : (a b c : Bool) → a || b ≡ true → IsTrue (a || (b || c))
blank_filling true b c h = refl
blank_filling false true c h = refl
blank_filling false false c h = cc

module _ (top : ℕ → Top) (f : Top → ℕ) (free : (t : Top) → IsTrue (is_filling t.content) → f t ≡ 0) where
  abbrev at : ℕ → Content
  at = content_of top

  abbrev own : List ℕ → ℕ
  own row = added (λ n. f (top n)) row

  abbrev total : List Slot → ℕ
  total slots = added (λ slot. f (top_in top slot)) slots

  stays_total : (row : List ℕ) → total (all_stay row) ≡ own row
  stays_total row = added_map (λ slot. f (top_in top slot)) stays row

  -- blanks and commas weigh nothing
  blank_free : (n : ℕ) → is_blank_at at n ≡ true → f (top n) ≡ 0
  blank_free n h = free (top n) (blank_filling (is_whitespace (at n)) (is_newline (at n)) (is_comma (at n)) h)

  comma_free : (n : ℕ) → is_comma_at at n ≡ true → f (top n) ≡ 0
  comma_free n h = free (top n) (or_right (is_whitespace (at n)) (is_newline (at n) || is_comma (at n)) (or_right (is_newline (at n)) (is_comma (at n)) h))

  space_free : (n : ℕ) → is_whitespace_at at n ≡ true → f (top n) ≡ 0
  space_free n h = free (top n) (or_left (is_whitespace (at n)) (is_newline (at n) || is_comma (at n)) h)

  -- of what travels only blank lines may leave
  blanks_gone : (k : ℕ) (row : List ℕ) → k ≤ prefix_len (is_blank_at at) row → own (drop k row) ≡ own row
  blanks_gone zero row h = refl
  blanks_gone (suc k) [] h = refl
  blanks_gone (suc k) (n ∷ row) h =
      elim (cases_Bool (is_blank_at at n)) [
        | inl e ↦ (let low : k ≤ prefix_len (is_blank_at at) row = omega (arith, rw e at h) in omega (arith, blanks_gone k row low, blank_free n e))
        | inr e ↦ absurd (omega (arith, rw e at h))
      ]

  travelling_whole : (first : Bool) (row : List ℕ) → own (travelling at first row) ≡ own row
  travelling_whole true row =
      let run : List ℕ = take_while (is_blank_at at) row in
      blanks_gone (blank_lines at row) row (omega (arith, length-take (prefix_len (is_blank_at at) row) row))
  travelling_whole false row = refl

  -- of a tail only its comma may leave, with a blank before it
  without_comma_whole : (tail : List ℕ) → own (without_comma at tail) ≡ own tail
  without_comma_whole [] = refl
  without_comma_whole (n ∷ []) = choose_by (λ l. own l ≡ f (top n) + 0) (is_comma_at at n) [] (n ∷ []) (λ e. omega (arith, comma_free n e)) (λ e. refl)
  without_comma_whole (n ∷ m ∷ rest) =
      choose_by (λ l. own l ≡ f (top n) + (f (top m) + own rest)) (is_comma_at at n) (m ∷ rest) (if is_whitespace_at at n && is_comma_at at m then rest else n ∷ without_comma at (m ∷ rest))
      (λ e. omega (arith, comma_free n e))
      (λ e. choose_by (λ l. own l ≡ f (top n) + (f (top m) + own rest)) (is_whitespace_at at n && is_comma_at at m) rest (n ∷ without_comma at (m ∷ rest))
      (λ b. omega (arith, space_free n (first_and (is_whitespace_at at n) (is_comma_at at m) b), comma_free m (second_and (is_whitespace_at at n) (is_comma_at at m) b)))
      (λ b. ap (λ k. f (top n) + k) (without_comma_whole (m ∷ rest))))
    where
      first_and : (a b : Bool) → a && b ≡ true → a ≡ true
      first_and true b h = refl
      first_and false b h = h

      second_and : (a b : Bool) → a && b ≡ true → b ≡ true
      second_and true b h = h
      second_and false b h = cc

  tail_whole : (comma : Bool) (tail : List ℕ) → total (tail_with at comma tail) ≡ own tail
  tail_whole true tail =
      choose (λ l. total l ≡ own tail) (has_comma at tail) (all_stay tail) (comes (token 0x2C) ∷ all_stay tail) (stays_total tail)
      (omega (arith, free (record { content = token 0x2C; below = none }) refl, stays_total tail))
  tail_whole false tail =
      choose (λ l. total l ≡ own tail) (has_comma at tail) (all_stay (without_comma at tail)) (all_stay tail) (stays_total (without_comma at tail) ∙ without_comma_whole tail) (stays_total tail)

  one_whole : (first comma : Bool) (p : Entry × Entry) → total (placed_one at first comma p) ≡ both (λ n. f (top n)) p
  one_whole first comma p =
      let w : Slot → ℕ = λ slot. f (top_in top slot) in
      let front : List Slot = all_stay p.0.lead.front in
      let travels : List Slot = all_stay (travelling at first p.1.lead.travels) in
      let indent : List Slot = all_stay p.0.lead.indent in
      let last : List Slot = stays p.1.element ∷ tail_with at comma p.1.tail in
      omega (arith, added_joined w (front ++ travels ++ indent) last, added_joined w (front ++ travels) indent, added_joined w front travels, stays_total p.0.lead.front, stays_total (travelling at first p.1.lead.travels), travelling_whole first p.1.lead.travels, stays_total p.0.lead.indent, tail_whole comma p.1.tail)

  placed_whole : (first commas : Bool) (ps : List (Entry × Entry)) → total (placed at first commas ps) ≡ added (both (λ n. f (top n))) ps
  placed_whole first commas [] = refl
  placed_whole first commas (p ∷ []) = omega (arith, one_whole first commas p)
  placed_whole first commas (p ∷ q ∷ rest) =
      omega (arith, added_joined (λ slot. f (top_in top slot)) (placed_one at first true p) (placed at false commas (q ∷ rest)), one_whole first true p, placed_whole false commas (q ∷ rest))

  rearranged_whole : (es : List Entry) (order : List ℕ) → IsPermutation (range_with_len 0 (length es)) order → total (rearranged at es order) ≡ added (kept (λ n. f (top n))) es + added (moved (λ n. f (top n))) es
  rearranged_whole es order p =
      let xs : List Entry = map (entry_at es) order in
      let moves : IsPermutation es xs = all_moved no_entry es order p in
      placed_whole true (ends_with_comma at es) (zip es xs) ∙ zip_whole (λ n. f (top n)) es xs (length_permutation es xs moves) ∙ ap (λ k. added (kept (λ n. f (top n))) es + k) (added_moved (moved (λ n. f (top n))) es xs moves)

  -- ends of lines weigh nothing
  lines_whole_row : (kind : CstNewlineKind) (row : List Slot) → total (lines_ended at kind row) ≡ total row
  lines_whole_row kind [] = refl
  lines_whole_row kind (slot ∷ row) =
      choose (λ l. total l ≡ f (top_in top slot) + total row) (is_line_comment (slot_content at slot) && goes_on at row) (slot ∷ comes (newline kind) ∷ lines_ended at kind row) (slot ∷ lines_ended at kind row)
      (omega (arith, lines_whole_row kind row, free (record { content = newline kind; below = none }) refl)) (omega (arith, lines_whole_row kind row))

-- as many entries as elements
count_parts : (at : ℕ → Content) (row : List ℕ) → length (parts at row).rest ≡ length (filter (λ n. is_element (at n)) row)
count_parts at [] = refl
count_parts at (n ∷ row) =
    let p : Parts = parts at row in
    elim (cases_Bool (is_element (at n))) [ inl e ↦ rw e (ap suc (count_parts at row)) | inr e ↦ rw e (count_parts at row) ]

count_entries : (at : ℕ → Content) (groups : Bool) (pins : List (Option ℕ)) (lead : List ℕ) (rest : List Part) → length (entries_from at groups pins lead rest) ≡ length rest
count_entries at groups pins lead [] = refl
count_entries at groups pins lead (part ∷ rest) = ap suc (count_entries at groups (drop 1 pins) part.behind rest)

pub entry_count : (at : ℕ → Content) (h : Headers) (row : List ℕ) → length (entries at h row) ≡ length (filter (λ n. is_element (at n)) row)
entry_count at h row = count_entries at h.groups h.pinned (parts at row).lead (parts at row).rest ∙ count_parts at row

-- a sorted row weighs what the row weighs
pub sorted_whole : (top : ℕ → Top) (f : Top → ℕ) → ((t : Top) → IsTrue (is_filling t.content) → f t ≡ 0) → (kind : CstNewlineKind) (h : Headers) (row order : List ℕ) → IsOrderOf top row order
    → added (λ slot. f (top_in top slot)) (sorted (content_of top) kind h row order) ≡ added (λ n. f (top n)) row
sorted_whole top f free kind h row order p =
    let at : ℕ → Content = content_of top in
    let w : Slot → ℕ = λ slot. f (top_in top slot) in
    let es : List Entry = entries at h row in
    let perm : IsPermutation (range_with_len 0 (length es)) order = subst (λ k. IsPermutation (range_with_len 0 k) order) (sym (entry_count at h row)) p in
    choose (λ l. added w l ≡ added (λ n. f (top n)) row) (is_unchanged order) (all_stay row) (lines_ended at kind (rearranged at es order ++ all_stay (row_end at row)))
    (stays_total top f free row)
    (lines_whole_row top f free kind (rearranged at es order ++ all_stay (row_end at row)) ∙ added_joined w (rearranged at es order) (all_stay (row_end at row))
    ∙ omega (arith, rearranged_whole top f free es order perm, stays_total top f free (row_end at row), entries_whole (λ n. f (top n)) at h.groups h.pinned (parts at row).lead (parts at row).rest, parts_whole (λ n. f (top n)) at row))
