-- The entries of a row, one after another.
use Rattle.std.proofs.Common.{◌≡◌, ℕ, zero, suc, ◌+◌, ◌-◌, ◌<◌, ◌≤◌, Bool, false, inl, inr, List, [], ◌∷◌, ◌++◌, All, length, map, take, drop, slice_index, Option, refl, sym, ap, subst, ◌∙◌, arith, append_assoc, append-nil, length-take, length-drop, length-append}
use Rattle.std.specs.Prelude.{nat_le, slice_range}
use Rattle.std.proofs.lemmas.Bool.{cases_Bool, cases_lt, le-leb, lt-leb}
use Rattle.std.proofs.lemmas.List.{drop-drop, get_or-drop, map-append, take-take}
use Rattle.std.proofs.lemmas.List.Elements.{All-append, All-cons, All-nil}
use Rattle.jsonc_tree.specs.Content.{Content}
use Rattle.jsonc_layout.specs.nodes.Kinds.{is_element}
use Rattle.jsonc_sort.specs.Leads.{LeadParts, lead_parts}
use Rattle.jsonc_sort.specs.Above.{leads, leads_from}
use Rattle.jsonc_sort.specs.Parts.{Part, Parts, is_none, part_with, parts, tail_length}
use Rattle.jsonc_sort.specs.Places.{AreEntries, ArePlaces, IsLast, IsNext, IsRead, before_element, end_after, end_past, entries_past, entry_of, gap_behind, lead_at, leads_past, is_last_at, tail_of}
use Rattle.jsonc_sort.specs.Sorting.{Entry, Headers, end_of, entries, entries_from, first_pin, row_end}
use Rattle.jsonc_sort.specs.declared.places.Places.{Places}

module _ (at : ℕ → Content) where
  -- where no element stands
  pub parts_none : (xs : List ℕ) → length xs ≤ before_element at xs → parts at xs ≡ record { lead = xs; rest = [] }
  parts_none [] h = refl
  parts_none (n ∷ xs) h =
      elim (cases_Bool (is_element (at n))) [
        | inl e ↦ absurd (omega (arith, rw e at h))
        | inr e ↦ (let rest = parts_none xs (omega (arith, rw e at h)) in rw (e, rest) refl)
      ]

  -- behind what stands before an element
  abbrev Found : List ℕ → ℕ → Parts
  Found xs k =
      let q : Parts = parts at (drop (k + 1) xs) in
      record { lead = take k xs; rest = part_with at (slice_index xs k) (is_none q.rest) q.lead ∷ q.rest }

  before_more : (n : ℕ) (xs : List ℕ) → is_element (at n) ≡ false → before_element at (n ∷ xs) ≡ suc (before_element at xs)
  before_more n xs e = rw e (omega arith)

  abbrev behind_node : ℕ → Parts → Parts
  behind_node n p = record { lead = n ∷ p.lead; rest = p.rest }

  parts_more : (n : ℕ) (xs : List ℕ) → is_element (at n) ≡ false → parts at (n ∷ xs) ≡ behind_node n (parts at xs)
  parts_more n xs e = rw e refl

  found_more : (n : ℕ) (xs : List ℕ) (k : ℕ) → behind_node n (Found xs k) ≡ Found (n ∷ xs) (suc k)
  found_more n xs k =
      let one : suc k + 1 ≡ suc (k + 1) = omega arith in
      ap (λ (j : ℕ). let w : Parts = record { lead = n ∷ take k xs; rest = part_with at (slice_index xs k) (is_none (parts at (drop j (n ∷ xs))).rest) (parts at (drop j (n ∷ xs))).lead ∷ (parts at (drop j (n ∷ xs))).rest } in w) (sym one)

  pub parts_found : (xs : List ℕ) → before_element at xs < length xs → parts at xs ≡ Found xs (before_element at xs)
  parts_found [] h = absurd (omega arith)
  parts_found (n ∷ xs) h =
      elim (cases_Bool (is_element (at n))) [
        | inl e ↦ rw e refl
        | inr e ↦ (
            let rest : parts at xs ≡ Found xs (before_element at xs) = parts_found xs (omega (arith, h, before_more n xs e)) in
            parts_more n xs e ∙ ap (behind_node n) rest ∙ found_more n xs (before_element at xs) ∙ ap (Found (n ∷ xs)) (sym (before_more n xs e))
            )
      ]

  -- of what is behind an element, the lead is up to the next one
  pub lead_is : (xs : List ℕ) → (parts at xs).lead ≡ take (before_element at xs) xs
  lead_is [] = refl
  lead_is (n ∷ xs) =
      elim (cases_Bool (is_element (at n))) [
        | inl e ↦ rw e refl
        | inr e ↦ ap (λ (p : Parts). p.lead) (parts_more n xs e) ∙ ap (λ l. n ∷ l) (lead_is xs) ∙ ap (λ k. take k (n ∷ xs)) (sym (before_more n xs e))
      ]

  pub last_is : (xs : List ℕ) → is_none (parts at xs).rest ≡ nat_le (length xs) (before_element at xs)
  last_is [] = refl
  last_is (n ∷ xs) =
      elim (cases_Bool (is_element (at n))) [
        | inl e ↦ rw e (sym (lt-leb (suc (length xs)) 0 (omega arith)))
        | inr e ↦ ap (λ (p : Parts). is_none p.rest) (parts_more n xs e) ∙ last_is xs ∙ le_more (length xs) (before_element at xs) ∙ ap (nat_le (suc (length xs))) (sym (before_more n xs e))
      ]
    where
      le_more : (a b : ℕ) → nat_le a b ≡ nat_le (suc a) (suc b)
      le_more a b =
          elim (cases_lt b a) [
            | inl low ↦ lt-leb a b low ∙ sym (lt-leb (suc a) (suc b) (omega (arith, low)))
            | inr high ↦ le-leb a b high ∙ sym (le-leb (suc a) (suc b) (omega (arith, high)))
          ]

  -- further on, before the next element
  pub parts_later : (t : ℕ) (xs : List ℕ) → t ≤ before_element at xs → parts at (drop t xs) ≡ record { lead = drop t (parts at xs).lead; rest = (parts at xs).rest }
  parts_later zero xs h = refl
  parts_later (suc t) [] h = refl
  parts_later (suc t) (n ∷ xs) h =
      elim (cases_Bool (is_element (at n))) [
        | inl e ↦ absurd (omega (arith, rw e at h))
        | inr e ↦ rw e (parts_later t xs (omega (arith, rw e at h)))
      ]

  abbrev an_entry : (lead : LeadParts) (element : ℕ) (tail : List ℕ) → Entry
  an_entry lead element tail = record { lead = lead; element = element; tail = tail }

  -- the next entry
  module _ (row : List ℕ) (from element : ℕ) (groups : Bool) (pin : Option ℕ) (p : Places) (is : element ≡ from + before_element at (drop from row)) (h : element < length row) (r : ArePlaces at row from element groups pin p) where
    abbrev xs : List ℕ
    xs = drop from row

    abbrev ys : List ℕ
    ys = drop (element + 1) row

    abbrev q : Parts
    q = parts at ys

    abbrev t : ℕ
    t = tail_length at (is_last_at at row element) (gap_behind at row element)

    abbrev long : ℕ
    long = tail_length at (is_none q.rest) q.lead

    same_long : long ≡ t
    same_long = ap (λ b. tail_length at b q.lead) (last_is ys) ∙ ap (tail_length at (is_last_at at row element)) (lead_is ys)

    front : take (before_element at xs) xs ≡ slice_range row from element
    front = ap (λ k. take k xs) (omega (arith, is))

    here : slice_index xs (before_element at xs) ≡ slice_index row element
    here = get_or-drop from row (before_element at xs) 0 ∙ ap (slice_index row) (sym is)

    later : drop (before_element at xs + 1) xs ≡ ys
    later = drop-drop (before_element at xs + 1) from row ∙ ap (λ k. drop k row) (omega (arith, is))

    found : parts at xs ≡ record { lead = slice_range row from element; rest = part_with at (slice_index row element) (is_none q.rest) q.lead ∷ q.rest }
    found =
        parts_found xs (omega (arith, is, h, length-drop from row))
        ∙ ap (λ (l : List ℕ). let w : Parts = record { lead = take (before_element at xs) xs; rest = part_with at (slice_index xs (before_element at xs)) (is_none (parts at l).rest) (parts at l).lead ∷ (parts at l).rest } in w) later
        ∙ ap (λ (n : ℕ). let w : Parts = record { lead = take (before_element at xs) xs; rest = part_with at n (is_none q.rest) q.lead ∷ q.rest } in w) here
        ∙ ap (λ (l : List ℕ). let w : Parts = record { lead = l; rest = part_with at (slice_index row element) (is_none q.rest) q.lead ∷ q.rest } in w) front

    short : t ≤ before_element at ys
    short = omega (arith, r.far, length-take (before_element at ys) ys)

    behind : parts at (drop p.end row) ≡ record { lead = drop long q.lead; rest = q.rest }
    behind =
        ap (λ k. parts at (drop k row)) r.end ∙ ap (parts at) (sym (drop-drop t (element + 1) row)) ∙ parts_later t ys short
        ∙ ap (λ (k : ℕ). let w : Parts = record { lead = drop k q.lead; rest = q.rest } in w) (sym same_long)

    tail : take long q.lead ≡ tail_of row p
    tail =
        ap (λ k. take k q.lead) same_long ∙ ap (take t) (lead_is ys) ∙ take-take t (before_element at ys) ys short
        ∙ ap (λ k. take k ys) (omega (arith, r.end, r.stands)) ∙ ap (λ k. take (p.end - (p.element + 1)) (drop (k + 1) row)) (sym r.stands)

    entry : (pins : List (Option ℕ)) → first_pin pins ≡ pin → an_entry (lead_parts at groups (first_pin pins) (slice_range row from element)) (slice_index row element) (take long q.lead) ≡ entry_of row p
    entry pins e =
        ap (λ (x : Option ℕ). an_entry (lead_parts at groups x (slice_range row from element)) (slice_index row element) (take long q.lead)) e
        ∙ ap (λ (l : LeadParts). an_entry l (slice_index row element) (take long q.lead)) (sym r.parts)
        ∙ ap (λ (k : ℕ). an_entry (entry_of row p).lead (slice_index row k) (take long q.lead)) (sym r.stands)
        ∙ ap (λ (l : List ℕ). an_entry (entry_of row p).lead (slice_index row p.element) l) tail

    pub next_is : IsNext at row from groups pin p
    next_is = record {
      begins = omega (arith, r.begins);
      read = r.read;
      entry = λ pins e.
          ap (λ (w : Parts). entries_from at groups pins w.lead w.rest) found
          ∙ ap (λ (x : Entry). x ∷ entries_from at groups (drop 1 pins) (drop long q.lead) q.rest) (entry pins e)
          ∙ ap (λ (w : Parts). entry_of row p ∷ entries_from at groups (drop 1 pins) w.lead w.rest) (sym behind);
      lead = ap (λ (w : Parts). leads_from w.lead w.rest) found
          ∙ ap (λ k. slice_range row k element ∷ leads_from (drop long q.lead) q.rest) (sym r.begins)
          ∙ ap (λ k. slice_range row p.lead k ∷ leads_from (drop long q.lead) q.rest) (sym r.stands)
          ∙ ap (λ (w : Parts). lead_at row p ∷ leads_from w.lead w.rest) (sym behind);
      behind = ap (λ (w : Parts). end_of w.lead w.rest) found ∙ ap (λ (w : Parts). end_of w.lead w.rest) (sym behind);
    }

  pub last_there : (row : List ℕ) (from : ℕ) → from ≤ length row → length row ≤ from + before_element at (drop from row) → IsLast at row from
  last_there row from h l =
      let e : parts at (drop from row) ≡ record { lead = drop from row; rest = [] } = parts_none (drop from row) (omega (arith, h, l, length-drop from row)) in
      record { none = ap (λ (w : Parts). w.rest) e; behind = ap (λ (w : Parts). end_of w.lead w.rest) e }

end_more : (from : ℕ) (ps : List Places) (p : Places) → end_after from (ps ++ p ∷ []) ≡ p.end
end_more from [] p = refl
end_more from (x ∷ ps) p = end_more x.end ps p

-- the entries of a row up to a place
module _ (at : ℕ → Content) (h : Headers) (row : List ℕ) where
  pub record Entered (places : List Places) (from : ℕ) : Type 0 where
    pub are : map (entry_of row) places ++ entries_past at row from h.groups (drop (length places) h.pinned) ≡ entries at h row
    pub leads : map (lead_at row) places ++ leads_past at row from ≡ leads at row
    pub behind : end_past at row from ≡ row_end at row
    pub last : from ≡ end_after 0 places
    pub read : All (IsRead at row) places
    pub within : from ≤ length row

  pub entered_none : (places : List Places) (from : ℕ) → places ≡ [] → from ≡ 0 → Entered places from
  entered_none places from e f =
      subst (λ ps. Entered ps from) (sym e) (subst (Entered []) (sym f) (record { are = refl; leads = refl; behind = refl; last = refl; read = All-nil (IsRead at row); within = omega arith }))

  pub entered_more : (places next : List Places) (from to : ℕ) (pin : Option ℕ) (p : Places) → Entered places from → first_pin (drop (length places) h.pinned) ≡ pin → IsNext at row from h.groups pin p → next ≡ places ++ p ∷ [] → to ≡ p.end → Entered next to
  entered_more places next from to pin p s e n f g =
      let rest : List Entry = entries_past at row p.end h.groups (drop (length places + 1) h.pinned) in
      let one : drop 1 (drop (length places) h.pinned) ≡ drop (length places + 1) h.pinned = drop-drop 1 (length places) h.pinned in
      let more : Entered (places ++ p ∷ []) p.end = record {
        are = ap (λ k. map (entry_of row) (places ++ p ∷ []) ++ entries_past at row p.end h.groups (drop k h.pinned)) (length-append places (p ∷ []))
            ∙ ap (λ l. l ++ rest) (map-append (entry_of row) places (p ∷ []))
            ∙ append_assoc (map (entry_of row) places) (entry_of row p ∷ []) rest
            ∙ ap (λ l. map (entry_of row) places ++ entry_of row p ∷ entries_past at row p.end h.groups l) (sym one)
            ∙ ap (λ l. map (entry_of row) places ++ l) (sym (n.entry (drop (length places) h.pinned) e))
            ∙ s.are;
        leads = ap (λ l. l ++ leads_past at row p.end) (map-append (lead_at row) places (p ∷ []))
            ∙ append_assoc (map (lead_at row) places) (lead_at row p ∷ []) (leads_past at row p.end)
            ∙ ap (λ l. map (lead_at row) places ++ l) (sym n.lead)
            ∙ s.leads;
        behind = sym n.behind ∙ s.behind;
        last = sym (end_more 0 places p);
        read = All-append (IsRead at row) places (p ∷ []) s.read (All-cons (IsRead at row) p [] n.read (All-nil (IsRead at row)));
        within = n.read.within.end;
      } in
      subst (λ ps. Entered ps to) (sym f) (subst (Entered (places ++ p ∷ [])) (sym g) more)

  pub entered_all : (places : List Places) (from : ℕ) → Entered places from → IsLast at row from → AreEntries at h row places
  entered_all places from s l = record {
    are = sym (append-nil (map (entry_of row) places)) ∙ ap (λ (ps : List Part). map (entry_of row) places ++ entries_from at h.groups (drop (length places) h.pinned) (parts at (drop from row)).lead ps) (sym l.none) ∙ s.are;
    leads = sym (append-nil (map (lead_at row) places)) ∙ ap (λ (ps : List Part). map (lead_at row) places ++ leads_from (parts at (drop from row)).lead ps) (sym l.none) ∙ s.leads;
    behind = ap (λ k. drop k row) (sym s.last) ∙ sym l.behind ∙ s.behind;
    read = s.read;
  }
