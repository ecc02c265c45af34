-- Of a row nothing but whitespace and ends of lines leaves.
use Rattle.std.proofs.Common.{◌≡◌, ◌<◌, ◌+◌, ◌-◌, ◌||◌, ◌⊎◌, inl, inr, ℕ, Bool, true, false, cond, List, [], ◌∷◌, ◌++◌, All, length, map, take, drop, get_or, slice_index, Some, eqb, refl, sym, ap, subst, ◌∙◌, arith, length-drop, get_or-drop}
use Rattle.std.specs.List.{suffix_len}
use Rattle.std.proofs.lemmas.List.{take-append-drop}
use Rattle.std.proofs.lemmas.List.Elements.{All-append, All-cons, All-from_get_or, All-head, All-nil, All-tail}
use Rattle.jsonc_text.specs.Plain.{Plain}
use Rattle.jsonc_tree.specs.Content.{Content}
use Rattle.jsonc_tree.specs.Tree.{Node, children_at, is_in, place_at, IsTree}
use Rattle.jsonc_tree.proofs.Order.{parent_there}
use Rattle.jsonc_tree.proofs.Splicing.{in_at}
use Rattle.jsonc_layout.specs.nodes.Kinds.{is_newline, is_newline_at, is_whitespace, is_whitespace_at, is_comma_at, is_blank_at}
use Rattle.jsonc_edit.specs.multiline.Slots.{Slot, stays, AreFilled, no_more, stayed, came}
use Rattle.jsonc_edit.specs.multiline.Lines.{Lines, between, lines_for, on_lines, spread_row, without_back}
use Rattle.jsonc_edit.specs.multiline.Multiline.{has_line_end}
use Rattle.jsonc_edit.specs.multiline.Plans.{begins_behind, child_slots}
use Rattle.jsonc_edit.proofs.lemmas.multiline.RowByNode.{woven}
use Rattle.jsonc_edit.proofs.Lists.{all_front, all_rest, suffix_passes}
use Rattle.jsonc_insert.specs.Planned.{has_brackets}
use Rattle.jsonc_insert.specs.Trimmed.{trimmed}
use Rattle.jsonc_insert.proofs.BlanksRemoved.{kept_or_blank, stays_or_leaves, either_left, either_right}
use Rattle.jsonc_insert.proofs.TrimmedRows.{has_two}
use Rattle.jsonc_insert.specs.members.Laws.{LosesBlanksAlone}
use Rattle.jsonc_insert.specs.members.Opened.{enclosed, opened}
use Rattle.jsonc_insert.proofs.lemmas.members.Elements.{enclosed_stay, lines_stay, staying, staying_all, whole_row}
use Rattle.jsonc_insert.proofs.lemmas.members.RowReplaced.{row_before}

-- whitespace or the end of a line, by what it is
abbrev is_blank : Content → Bool
is_blank content = is_whitespace content || is_newline content

-- nodes that fill places hold those that stay
filled_in : (old lined : List Node) (slots : List Slot) (row : List ℕ) → AreFilled old lined slots row → All (λ n. is_in n row ≡ true) (staying slots)
filled_in old lined _ _ no_more = All-nil (λ n. is_in n [] ≡ true)
filled_in old lined _ _ (stayed {n = n} {slots = slots} {row = row} rest) =
    All-cons (λ k. is_in k (n ∷ row) ≡ true) n (staying slots) (in_at (n ∷ row) 0 (omega arith)) (λ k d h. either_right (eqb (get_or (staying slots) k d) n) (is_in (get_or (staying slots) k d) row) (filled_in old lined slots row rest k d h))
filled_in old lined _ _ (came {n = n} {slots = slots} {row = row} later here is alone rest) = λ k d h. either_right (eqb (get_or (staying slots) k d) n) (is_in (get_or (staying slots) k d) row) (filled_in old lined slots row rest k d h)

module _ (lines : Lines) (ns : List Node) (Q : ℕ → Type 0) where
  abbrev R : ℕ → Type 0
  R n = Q n ⊎ (is_whitespace_at ns n ≡ true)

  child_kept : (n : ℕ) (row : List ℕ) (rest : List Slot) (begins blank : Bool) → is_whitespace_at ns n ≡ blank → (All Q (staying rest) → All R row) → All Q (staying (child_slots lines begins blank n ++ rest)) → All R (n ∷ row)
  child_kept n row rest true true e f all = All-cons R n row (inr e) (f all)
  child_kept n row rest true false e f all = All-cons R n row (inl (All-head Q n (staying rest) all)) (f (All-tail Q n (staying rest) all))
  child_kept n row rest false blank e f all = All-cons R n row (inl (All-head Q n (staying rest) all)) (f (All-tail Q n (staying rest) all))

  woven_kept : (begins : Bool) (row : List ℕ) → All Q (staying (woven lines ns begins row)) → All R row
  woven_kept begins [] all = All-nil R
  woven_kept begins (n ∷ row) all =
      let next = begins_behind begins (is_whitespace_at ns n) (is_comma_at ns n) in
      child_kept n row (woven lines ns next row) begins (is_whitespace_at ns n) refl (woven_kept next row) all

  -- what stands on a line stays, but for whitespace
  lines_kept : (row : List ℕ) → All Q (staying (on_lines lines ns row)) → All R row
  lines_kept row all =
      let k : ℕ = length row - suffix_len (is_whitespace_at ns) row in
      let front : All R (take k row) = woven_kept true (without_back ns row) (subst (All Q) (lines_stay lines ns row) all) in
      let back : All R (drop k row) =
      All-from_get_or R (drop k row) 0
      (λ j h.
      let there : k + j < length row = omega (arith, h, length-drop k row) in
      inr (ap (is_whitespace_at ns) (get_or-drop k row j 0) ∙ suffix_passes (is_whitespace_at ns) row (k + j) (omega arith) there)) in
      subst (All R) (take-append-drop k row) (All-append R (take k row) (drop k row) front back)

module _ (old : List Node) (tree : IsTree old) (c : ℕ) (brackets : has_brackets old (children_at old c) ≡ true) (Q : ℕ → Type 0) where
  abbrev kids : List ℕ
  kids = children_at old c

  abbrev Stays : ℕ → Type 0
  Stays n = Q n ⊎ (is_whitespace_at old n ≡ true)

  abbrev spread : List Slot
  spread = spread_row (lines_for old c) old c

  abbrev front : ℕ
  front = slice_index kids 0

  abbrev back : ℕ
  back = slice_index kids (length kids - 1)

  kept_between : All Q (front ∷ (staying spread ++ back ∷ [])) → All Stays kids
  kept_between all =
      let rest = All-tail Q front (staying spread ++ back ∷ []) all in
      let last : All Q (back ∷ []) = all_rest Q (staying spread) (back ∷ []) rest in
      subst (All Stays) (sym (whole_row old kids brackets))
      (All-cons Stays front (between kids ++ back ∷ []) (inl (All-head Q front (staying spread ++ back ∷ []) all))
      (All-append Stays (between kids) (back ∷ []) (lines_kept (lines_for old c) old Q (between kids) (all_front Q (staying spread) (back ∷ []) rest)) (All-cons Stays back [] (inl (All-head Q back [] last)) (All-nil Stays))))

  pub all_kept : All Q (staying (opened old c)) → All Stays kids
  all_kept all = by (has_line_end old c) all
    where
      by : (b : Bool) → All Q (staying (cond b (map stays kids) (enclosed kids spread))) → All Stays kids
      by true h = λ k d l. inl (subst (All Q) (staying_all kids) h k d l)
      by false h = kept_between (subst (All Q) (enclosed_stay old kids brackets spread) h)

abbrev InLines : List ℕ → ℕ → Type 0
InLines row k = is_in k row ≡ true

pub loses_blanks_alone : (old new : List Node) (c i : ℕ) (name : List ℕ) (v : Plain) (m : ℕ) → LosesBlanksAlone old new c i name v m
loses_blanks_alone old new c i name v m tree there brackets e n said =
    stays_or_leaves old e.lined tree c there e.was (row_before old e.lined c e.was e.before) e.ready e.prepared i (Some name) v m e.row e.made new e.put (is_blank_at old n) n said stands
  where
    in_lines : InLines e.before.lines n ⊎ (is_whitespace_at old n ≡ true)
    in_lines =
        subst (λ k. InLines e.before.lines k ⊎ (is_whitespace_at old k ≡ true)) (tree.found n c said)
        (all_kept old tree c brackets (InLines e.before.lines) (filled_in old e.lined (opened old c) e.before.lines e.before.opens.filled) (place_at old n) 0 (tree.within n c said))

    same : is_blank_at e.lined n ≡ is_blank_at old n
    same = ap is_blank (e.before.opens.prepared.keeps.content n (parent_there old tree n c said).0)

    stands : (is_in n e.was ≡ true) ⊎ (is_blank_at old n ≡ true)
    stands = here in_lines
      where
        trim : (is_in n (trimmed e.lined e.before.lines) ≡ true) ⊎ (is_blank_at e.lined n ≡ true) → (is_in n e.was ≡ true) ⊎ (is_blank_at old n ≡ true)
        trim (inl h) = inl (ap (is_in n) e.before.is ∙ h)
        trim (inr h) = inr (sym same ∙ h)

        here : InLines e.before.lines n ⊎ (is_whitespace_at old n ≡ true) → (is_in n e.was ≡ true) ⊎ (is_blank_at old n ≡ true)
        here (inr h) = inr (either_left (is_whitespace_at old n) (is_newline_at old n) h)
        here (inl h) = trim (kept_or_blank e.lined e.before.lines (has_two e.lined e.before.lines e.before.opens.brackets) n h)
