-- Line comments of a sorted row end with their lines.
use Rattle.std.proofs.Common.{◌≡◌, ℕ, Bool, true, false, not, ◌&&◌, List, [], ◌∷◌, ◌++◌, length, map, IsTrue, refl, sym, ap, ◌∙◌, inl, inr}
use Rattle.std.specs.Prelude.{if◌then◌else◌, zip, IsPermutation}
use Rattle.std.specs.List.{range_with_len}
use Rattle.std.proofs.lemmas.Bool.{cases_Bool}
use Rattle.jsonc_tree.specs.Content.{Content, token, newline}
use Rattle.jsonc_tree.specs.OrderedTree.{OrderedTree, Top, none, more}
use Rattle.jsonc_tree.specs.declared.node.CstNewlineKind.{CstNewlineKind}
use Rattle.jsonc_layout.specs.nodes.Kinds.{is_newline, is_whitespace}
use Rattle.jsonc_sound.specs.Lines.{ends_loosely, is_line_comment, is_loose, LinesEndLoosely}
use Rattle.jsonc_sound.specs.Shape.{token_then}
use Rattle.jsonc_sound.specs.Rows as rows
use Rattle.jsonc_sound.specs.Rows.{RowKind, closing}
use Rattle.jsonc_sort.specs.Slots.{Slot, stays, comes, all_stay, top_in}
use Rattle.jsonc_sort.specs.Parts.{has_comma, is_comma_at, is_whitespace_at}
use Rattle.jsonc_sort.specs.Leads.{blank_lines}
use Rattle.jsonc_sort.specs.Sorting.{Entry, Headers, ends_with_comma, entries, entry_at, goes_on, lines_ended, no_entry, placed, placed_one, rearranged, row_end, slot_content, tail_with, travelling, without_comma}
use Rattle.jsonc_sort.specs.Laws.{closed, content_of}
use Rattle.jsonc_sort.proofs.NodesOfEntries.{ByKind, HeldEntry, row_held}
use Rattle.jsonc_sort.proofs.Choices.{Each, all_moved, choose, choose_by, each_drop, each_joined, each_moved, each_zipped}

-- what holds of each child of a row holds of each that stays in the sorted row
module _ (at : ℕ → Content) (P : ℕ → Type 0) where
  abbrev pub Held : Slot → Type 0
  Held (stays n) = P n
  Held (comes content) = Unit {0}

  all_held : (row : List ℕ) → Each P row → Each Held (all_stay row)
  all_held [] h = tt
  all_held (n ∷ row) h = (h.0, all_held row h.1)

  without_held : (tail : List ℕ) → Each P tail → Each P (without_comma at tail)
  without_held [] h = tt
  without_held (n ∷ []) h = choose (Each P) (is_comma_at at n) [] (n ∷ []) tt h
  without_held (n ∷ m ∷ rest) h =
      choose (Each P) (is_comma_at at n) (m ∷ rest) (if is_whitespace_at at n && is_comma_at at m then rest else n ∷ without_comma at (m ∷ rest)) h.1
      (choose (Each P) (is_whitespace_at at n && is_comma_at at m) rest (n ∷ without_comma at (m ∷ rest)) h.1.1 (h.0, without_held (m ∷ rest) h.1))

  tail_held : (comma : Bool) (tail : List ℕ) → Each P tail → Each Held (tail_with at comma tail)
  tail_held true tail h = choose (Each Held) (has_comma at tail) (all_stay tail) (comes (token 0x2C) ∷ all_stay tail) (all_held tail h) (tt, all_held tail h)
  tail_held false tail h = choose (Each Held) (has_comma at tail) (all_stay (without_comma at tail)) (all_stay tail) (all_held (without_comma at tail) (without_held tail h)) (all_held tail h)

  travelling_held : (first : Bool) (row : List ℕ) → Each P row → Each P (travelling at first row)
  travelling_held true row h = each_drop P (blank_lines at row) row h
  travelling_held false row h = h

  one_held : (first comma : Bool) (p : Entry × Entry) → HeldEntry at P P p.0 → HeldEntry at P P p.1 → Each Held (placed_one at first comma p)
  one_held first comma p a b =
      let front : List Slot = all_stay p.0.lead.front in
      let travels : List Slot = all_stay (travelling at first p.1.lead.travels) in
      let indent : List Slot = all_stay p.0.lead.indent in
      each_joined Held (front ++ travels ++ indent) (stays p.1.element ∷ tail_with at comma p.1.tail)
      (each_joined Held (front ++ travels) indent (each_joined Held front travels (all_held p.0.lead.front a.lead.front) (all_held (travelling at first p.1.lead.travels) (travelling_held first p.1.lead.travels b.lead.travels))) (all_held p.0.lead.indent a.lead.indent))
      (b.element, tail_held comma p.1.tail b.tail)

  placed_held : (first commas : Bool) (ps : List (Entry × Entry)) → Each (λ p. HeldEntry at P P p.0 × HeldEntry at P P p.1) ps → Each Held (placed at first commas ps)
  placed_held first commas [] h = tt
  placed_held first commas (p ∷ []) h = one_held first commas p h.0.0 h.0.1
  placed_held first commas (p ∷ q ∷ rest) h = each_joined Held (placed_one at first true p) (placed at false commas (q ∷ rest)) (one_held first true p h.0.0 h.0.1) (placed_held false commas (q ∷ rest) h.1)

  by_kinds : (row : List ℕ) → Each P row → Each (ByKind at P P) row
  by_kinds [] h = tt
  by_kinds (n ∷ row) h = (record { element = λ e. h.0; other = λ e. h.0 }, by_kinds row h.1)

  pub rearranged_held : (h : Headers) (row order : List ℕ) → Each P row → IsPermutation (range_with_len 0 (length (entries at h row))) order → Each Held (rearranged at (entries at h row) order ++ all_stay (row_end at row))
  rearranged_held h row order each p =
      let es : List Entry = entries at h row in
      let xs : List Entry = map (entry_at es) order in
      let are = row_held at P P h row (by_kinds row each) in
      let moved : Each (HeldEntry at P P) xs = each_moved (HeldEntry at P P) es xs (all_moved no_entry es order p) are.0 in
      each_joined Held (rearranged at es order) (all_stay (row_end at row)) (placed_held true (ends_with_comma at es) (zip es xs) (each_zipped (HeldEntry at P P) es xs are.0 moved)) (all_held (row_end at row) are.1)

-- line comments
module _ (kind : RowKind) (top : ℕ → Top) where
  abbrev at_ : ℕ → Content
  at_ = content_of top

  -- below a child line comments end with their lines
  abbrev pub Ends : Top → Type 0
  Ends t = LinesEndLoosely (is_loose t.content) false t.below

  pub rows_end : (row : List ℕ) → LinesEndLoosely true false (closed kind top (all_stay row)) → Each (λ n. Ends (top n)) row
  rows_end [] h = tt
  rows_end (n ∷ row) h = (h.1, rows_end row h.2)

  same_content : (s : Slot) → slot_content at_ s ≡ (top_in top s).content
  same_content (stays n) = refl
  same_content (comes content) = refl

  no_comment : (c : Content) → is_whitespace c ≡ true → is_line_comment c ≡ false
  no_comment (Content.whitespace s) h = refl
  no_comment c h = cc

  newline_no_comment : (c : Content) → is_newline c ≡ true → is_line_comment c ≡ false
  newline_no_comment (Content.newline s) h = refl
  newline_no_comment c h = cc

  ends_behind_blank : (c : Content) (below after : OrderedTree) → is_whitespace c ≡ true → IsTrue (ends_loosely true false after) → IsTrue (ends_loosely true false (more c below after))
  ends_behind_blank (Content.whitespace s) below after h k = k
  ends_behind_blank c below after h k = cc

  ends_with_newline : (c : Content) (below after : OrderedTree) → is_newline c ≡ true → IsTrue (ends_loosely true false (more c below after))
  ends_with_newline (Content.newline s) below after h = refl
  ends_with_newline c below after h = cc

  -- where a line ends next, past whitespace, it does so still
  line_ends_next : (k : CstNewlineKind) (xs : List Slot) → goes_on at_ xs ≡ false → IsTrue (ends_loosely true false (closed kind top (lines_ended at_ k xs)))
  line_ends_next k [] e = cc
  line_ends_next k (s ∷ xs) e =
      elim (cases_Bool (is_whitespace (slot_content at_ s))) [
        | inl w ↦ (
            let rest : goes_on at_ xs ≡ false = rw w at e in
            let plain : is_line_comment (slot_content at_ s) ≡ false = no_comment (slot_content at_ s) w in
            rw plain (ends_behind_blank (top_in top s).content (top_in top s).below (closed kind top (lines_ended at_ k xs)) (ap is_whitespace (sym (same_content s)) ∙ w) (line_ends_next k xs rest))
            )
        | inr w ↦ (
            let ends : is_newline (slot_content at_ s) ≡ true = not_false (is_newline (slot_content at_ s)) (rw w at e) in
            let plain : is_line_comment (slot_content at_ s) ≡ false = newline_no_comment (slot_content at_ s) ends in
            rw plain (ends_with_newline (top_in top s).content (top_in top s).below (closed kind top (lines_ended at_ k xs)) (ap is_newline (sym (same_content s)) ∙ ends))
            )
      ]
    where
      not_false : (b : Bool) → not b ≡ false → b ≡ true
      not_false true h = refl
      not_false false h = cc

  bracket_ends : (kind : RowKind) → LinesEndLoosely true false (token_then (closing kind) none)
  bracket_ends rows.of_values = (λ h. cc, tt, tt)
  bracket_ends rows.of_properties = (λ h. cc, tt, tt)

  goes_false : (a b : Bool) → a && b ≡ false → a ≡ true → b ≡ false
  goes_false true b h e = h
  goes_false false b h e = cc

  pub lines_are_ended : (k : CstNewlineKind) (xs : List Slot) → Each (λ s. Ends (top_in top s)) xs → LinesEndLoosely true false (closed kind top (lines_ended at_ k xs))
  lines_are_ended k [] h = bracket_ends kind
  lines_are_ended k (s ∷ xs) h =
      choose_by (λ l. LinesEndLoosely true false (closed kind top l)) (is_line_comment (slot_content at_ s) && goes_on at_ xs) (s ∷ comes (newline k) ∷ lines_ended at_ k xs) (s ∷ lines_ended at_ k xs)
      (λ e. (λ c. refl, h.0, (λ c. cc, tt, lines_are_ended k xs h.1)))
      (λ e. (λ c. line_ends_next k xs (goes_false _ _ e (ap is_line_comment (same_content s) ∙ c)), h.0, lines_are_ended k xs h.1))

  pub slots_end : (xs : List Slot) → Each (Held at_ (λ n. Ends (top n))) xs → Each (λ s. Ends (top_in top s)) xs
  slots_end [] h = tt
  slots_end (stays n ∷ xs) h = (h.0, slots_end xs h.1)
  slots_end (comes content ∷ xs) h = (none_below content, slots_end xs h.1)
    where
      none_below : (c : Content) → Ends (record { content = c; below = none })
      none_below c = tt
