-- What holds of the nodes of a row holds of those of its entries: P of what is no element, Q of elements.
use Rattle.std.proofs.Common.{◌≡◌, ℕ, Bool, true, false, List, [], ◌∷◌, take, drop, Option}
use Rattle.std.specs.List.{list_any}
use Rattle.jsonc_tree.specs.Content.{Content}
use Rattle.jsonc_layout.specs.nodes.Kinds.{is_element}
use Rattle.jsonc_sort.specs.Parts.{Part, Parts, is_newline_at, is_none, part_with, parts, tail_length, up_to_spaces}
use Rattle.jsonc_sort.specs.Leads.{LeadParts, begins_group, first_line, header_length, lead_parts, parts_of_line, parts_of_lines, spaces}
use Rattle.jsonc_sort.specs.Sorting.{Entry, Headers, end_of, entries, entries_from, first_pin, row_end}
use Rattle.jsonc_sort.proofs.Choices.{Each, choose, choose_by, each_drop, each_joined, each_take}

module _ (at : ℕ → Content) (P Q : ℕ → Type 0) where
  pub record HeldLead (p : LeadParts) : Type 0 where
    pub front : Each P p.front
    pub travels : Each P p.travels
    pub indent : Each P p.indent

  pub record HeldEntry (e : Entry) : Type 0 where
    pub lead : HeldLead e.lead
    pub element : Q e.element
    pub tail : Each P e.tail

  held_lead : (groups : Bool) (pin : Option ℕ) (lead : List ℕ) → Each P lead → HeldLead (lead_parts at groups pin lead)
  held_lead groups pin lead h =
      choose HeldLead (list_any (is_newline_at at) lead) (parts_of_lines at (begins_group at groups lead) pin lead) (parts_of_line at lead) (lines (begins_group at groups lead))
      (record { front = each_take P (spaces at lead) lead h; travels = each_drop P (spaces at lead) lead h; indent = tt })
    where
      lines : (begins : Bool) → HeldLead (parts_of_lines at begins pin lead)
      lines begins =
          let first : List ℕ = take (first_line at lead) lead in
          let rest : List ℕ = drop (first_line at lead) lead in
          let behind : Each P rest = each_drop P (first_line at lead) lead h in
          let above : List ℕ = take (up_to_spaces at rest) rest in
          let quiet : Each P above = each_take P (up_to_spaces at rest) rest behind in
          let header : ℕ = header_length at begins pin above in
          record {
            front = each_joined P first (take header above) (each_take P (first_line at lead) lead h) (each_take P header above quiet);
            travels = each_drop P header above quiet;
            indent = each_drop P (up_to_spaces at rest) rest behind;
          }

  pub record HeldPart (part : Part) : Type 0 where
    pub element : Q part.element
    pub tail : Each P part.tail
    pub behind : Each P part.behind

  pub record HeldParts (p : Parts) : Type 0 where
    pub lead : Each P p.lead
    pub rest : Each HeldPart p.rest

  -- by what a node is
  pub record ByKind (n : ℕ) : Type 0 where
    pub element : is_element (at n) ≡ true → Q n
    pub other : is_element (at n) ≡ false → P n

  parts_held : (row : List ℕ) → Each ByKind row → HeldParts (parts at row)
  parts_held [] h = record { lead = tt; rest = tt }
  parts_held (n ∷ row) h =
      let p : Parts = parts at row in
      let held : HeldParts p = parts_held row h.1 in
      let k : ℕ = tail_length at (is_none p.rest) p.lead in
      choose_by HeldParts (is_element (at n)) (record { lead = []; rest = part_with at n (is_none p.rest) p.lead ∷ p.rest }) (record { lead = n ∷ p.lead; rest = p.rest })
      (λ e. record { lead = tt; rest = (record { element = h.0.element e; tail = each_take P k p.lead held.lead; behind = each_drop P k p.lead held.lead }, held.rest) })
      (λ e. record { lead = (h.0.other e, held.lead); rest = held.rest })

  entries_held : (groups : Bool) (pins : List (Option ℕ)) (lead : List ℕ) (rest : List Part) → Each P lead → Each HeldPart rest → Each HeldEntry (entries_from at groups pins lead rest) × Each P (end_of lead rest)
  entries_held groups pins lead [] h k = (tt, h)
  entries_held groups pins lead (part ∷ rest) h k =
      let others = entries_held groups (drop 1 pins) part.behind rest k.0.behind k.1 in
      ((record { lead = held_lead groups (first_pin pins) lead h; element = k.0.element; tail = k.0.tail }, others.0), others.1)

  pub row_held : (h : Headers) (row : List ℕ) → Each ByKind row → Each HeldEntry (entries at h row) × Each P (row_end at row)
  row_held h row each =
      let held : HeldParts (parts at row) = parts_held row each in
      entries_held h.groups h.pinned (parts at row).lead (parts at row).rest held.lead held.rest
