-- The entries of a row by their places in it: where each part begins and ends.
use Rattle.std.specs.Prelude.{◌≡◌, ◌<◌, ◌≤◌, ℕ, zero, suc, ◌+◌, ◌-◌, Bool, List, [], ◌∷◌, ◌++◌, drop, length, map, nat_le, nat_lt, slice_index, slice_range, take, Option, if◌then◌else◌}
use Rattle.std.specs.List.{position_or_len, All}
use Rattle.jsonc_tree.specs.Content.{Content}
use Rattle.jsonc_layout.specs.nodes.Kinds.{is_element}
use Rattle.jsonc_sort.specs.Parts.{has_comma, is_comma_at, is_newline_at, is_whitespace_at, parts, tail_length}
use Rattle.jsonc_sort.specs.Leads.{LeadParts, blank_lines, is_comment_at, lead_parts}
use Rattle.jsonc_sort.specs.Above.{leads, leads_from}
use Rattle.jsonc_sort.specs.Sorting.{Entry, Headers, end_of, entries, entries_from, first_pin, row_end, without_comma}
use Rattle.jsonc_sort.specs.declared.places.Places.{Places}
use Rattle.jsonc_sort.specs.declared.leads.Lead.{Lead}
use Rattle.jsonc_sort.specs.declared.parts.Comma.{Comma}

-- a lead in three, by the places where the second and the third part begin
abbrev pub lead_of : List ℕ → Lead → LeadParts
lead_of lead l = record { front = take l.travels lead; travels = slice_range lead l.travels l.indent; indent = drop l.indent lead }

-- an entry by its places, and its tail without the comma
abbrev pub tail_of : List ℕ → Places → List ℕ
tail_of row p = slice_range row (p.element + 1) p.end

abbrev pub bare_tail_of : List ℕ → Places → List ℕ
bare_tail_of row p = slice_range row (p.element + 1) p.comma ++ slice_range row p.behind p.end

abbrev pub entry_of : List ℕ → Places → Entry
entry_of row p = record {
  lead = record { front = slice_range row p.lead p.travels; travels = slice_range row p.travels p.indent; indent = slice_range row p.indent p.element };
  element = slice_index row p.element;
  tail = tail_of row p;
}

-- what stands before its element
abbrev pub lead_at : List ℕ → Places → List ℕ
lead_at row p = slice_range row p.lead p.element

-- it has a comma
abbrev pub has_comma_of : Places → Bool
has_comma_of p = nat_lt p.comma p.behind

-- the places are in order, and in the row
pub record IsWithin (row : List ℕ) (p : Places) : Type 0 where
  pub lead : p.lead ≤ p.travels
  pub travels : p.travels ≤ p.solid
  pub solid : p.solid ≤ p.indent
  pub indent : p.indent ≤ p.element
  pub element : p.element < p.comma
  pub comma : p.comma ≤ p.behind
  pub behind : p.behind ≤ p.end
  pub end : p.end ≤ length row

-- where the last of the entries ends, or the row begins
abbrev pub end_after : ℕ → List Places → ℕ
end_after from [] = from
end_after from (p ∷ ps) = end_after p.end ps

module _ (at : ℕ → Content) where
  -- how many nodes stand before the first comma, or all
  abbrev pub before_comma : List ℕ → ℕ
  before_comma row = position_or_len (is_comma_at at) row

  -- a place, or that of the whitespace leaf directly before it
  abbrev pub before_blank : List ℕ → ℕ → ℕ
  before_blank row zero = 0
  before_blank row (suc k) = if is_whitespace_at at (slice_index row k) then k else suc k

  -- how many stand before the first element, or all
  abbrev pub before_element : List ℕ → ℕ
  before_element row = position_or_len (λ n. is_element (at n)) row

  -- whether a line has ended, with nothing but whitespace since, once a node more has been passed
  abbrev pub ended_behind : ℕ → Bool → Bool
  ended_behind n ended = if is_whitespace_at at n then ended else is_newline_at at n

  -- how many comments are still to be passed
  abbrev pub left_behind : ℕ → ℕ → ℕ
  left_behind n left = if is_comment_at at n then left - 1 else left

  -- what leaves of a tail with its comma, a stretch that is empty where there is none
  pub record IsComma (tail : List ℕ) (comma : Comma) : Type 0 where
    pub has : has_comma at tail ≡ nat_lt comma.from comma.to
    pub without : without_comma at tail ≡ take comma.from tail ++ drop comma.to tail
    pub from : comma.from ≤ comma.to
    pub to : comma.to ≤ length tail

  -- the places of an entry, with those of the blank lines that what travels begins with, and of its comma
  pub record IsRead (row : List ℕ) (p : Places) : Type 0 where
    pub within : IsWithin row p
    pub solid : drop (blank_lines at (slice_range row p.travels p.indent)) (slice_range row p.travels p.indent) ≡ slice_range row p.solid p.indent
    pub has : has_comma at (tail_of row p) ≡ has_comma_of p
    pub without : without_comma at (tail_of row p) ≡ bare_tail_of row p

  -- these are the places of an entry whose lead begins at a place, with the element at another
  abbrev pub gap_behind : List ℕ → ℕ → List ℕ
  gap_behind row element = take (before_element (drop (element + 1) row)) (drop (element + 1) row)

  abbrev pub is_last_at : List ℕ → ℕ → Bool
  is_last_at row element = nat_le (length (drop (element + 1) row)) (before_element (drop (element + 1) row))

  pub record ArePlaces (row : List ℕ) (from element : ℕ) (groups : Bool) (pin : Option ℕ) (p : Places) : Type 0 where
    pub begins : p.lead ≡ from
    pub stands : p.element ≡ element
    pub parts : (entry_of row p).lead ≡ lead_parts at groups pin (slice_range row from element)
    pub end : p.end ≡ element + 1 + tail_length at (is_last_at row element) (gap_behind row element)
    pub far : tail_length at (is_last_at row element) (gap_behind row element) ≤ length (gap_behind row element)
    pub read : IsRead row p

  -- the entries that begin from a place of a row on, whatever is pinned before them, their leads, and what stands behind the last
  abbrev pub entries_past : List ℕ → ℕ → Bool → List (Option ℕ) → List Entry
  entries_past row from groups pins = entries_from at groups pins (parts at (drop from row)).lead (parts at (drop from row)).rest

  abbrev pub leads_past : List ℕ → ℕ → List (List ℕ)
  leads_past row from = leads_from (parts at (drop from row)).lead (parts at (drop from row)).rest

  abbrev pub end_past : List ℕ → ℕ → List ℕ
  end_past row from = end_of (parts at (drop from row)).lead (parts at (drop from row)).rest

  -- the next entry from a place on, before which so many comments are pinned
  pub record IsNext (row : List ℕ) (from : ℕ) (groups : Bool) (pin : Option ℕ) (p : Places) : Type 0 where
    pub begins : from ≤ p.lead
    pub read : IsRead row p
    pub entry : (pins : List (Option ℕ)) → first_pin pins ≡ pin
        → entries_past row from groups pins ≡ entry_of row p ∷ entries_past row p.end groups (drop 1 pins)
    pub lead : leads_past row from ≡ lead_at row p ∷ leads_past row p.end
    pub behind : end_past row from ≡ end_past row p.end

  -- no entry begins from there on
  pub record IsLast (row : List ℕ) (from : ℕ) : Type 0 where
    pub none : (parts at (drop from row)).rest ≡ []
    pub behind : end_past row from ≡ drop from row

  -- these are the entries of a row
  pub record AreEntries (h : Headers) (row : List ℕ) (places : List Places) : Type 0 where
    pub are : map (entry_of row) places ≡ entries at h row
    pub leads : map (lead_at row) places ≡ leads at row
    pub behind : drop (end_after 0 places) row ≡ row_end at row
    pub read : All (IsRead row) places
