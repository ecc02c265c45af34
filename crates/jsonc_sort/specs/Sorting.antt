-- What stands between the brackets of an array or object whose elements have come in another order, each with what goes with it.
use Rattle.std.specs.Prelude.{ℕ, Bool, true, false, not, ◌&&◌, List, [], ◌∷◌, ◌++◌, bytes_eq, drop, length, map, zip, Option, None, slice_index_or, if◌then◌else◌}
use Rattle.std.specs.List.{range_with_len}
use Rattle.jsonc_tree.specs.Content.{Content, newline, token}
use Rattle.jsonc_tree.specs.declared.node.CstNewlineKind.{CstNewlineKind}
use Rattle.jsonc_sound.specs.Lines.{is_line_comment}
use Rattle.jsonc_layout.specs.nodes.Kinds.{is_newline, is_whitespace}
use Rattle.jsonc_sort.specs.Slots.{Slot, stays, comes, all_stay}
use Rattle.jsonc_sort.specs.Parts.{Part, has_comma, is_comma_at, is_whitespace_at, parts}
use Rattle.jsonc_sort.specs.Leads.{LeadParts, blank_lines, lead_parts}

-- how a sort treats what stands before elements: how many comments are pinned before each, or none where no rule asks;
-- and whether blank lines part the elements
pub record Headers : Type 0 where
  pub pinned : List (Option ℕ)
  pub groups : Bool

-- an element with what stands before it, in three, and what belongs to it
pub record Entry : Type 0 where
  pub lead : LeadParts
  pub element : ℕ
  pub tail : List ℕ

abbrev pub nothing : LeadParts
nothing = record { front = []; travels = []; indent = [] }

abbrev pub no_entry : Entry
no_entry = record { lead = nothing; element = 0; tail = [] }

abbrev pub entry_at : List Entry → ℕ → Entry
entry_at es i = slice_index_or es i no_entry

-- the first of the numbers of pinned comments, and the others
abbrev pub first_pin : List (Option ℕ) → Option ℕ
first_pin [] = None
first_pin (pin ∷ pins) = pin

-- what stands behind the last of the parts
abbrev pub end_of : List ℕ → List Part → List ℕ
end_of lead [] = lead
end_of lead (part ∷ rest) = end_of part.behind rest

-- the order is the old one
abbrev pub is_unchanged : List ℕ → Bool
is_unchanged order = bytes_eq order (range_with_len 0 (length order))

module _ (at : ℕ → Content) where
  abbrev pub entries_from : Bool → List (Option ℕ) → List ℕ → List Part → List Entry
  entries_from groups pins lead [] = []
  entries_from groups pins lead (part ∷ rest) =
      record { lead = lead_parts at groups (first_pin pins) lead; element = part.element; tail = part.tail }
      ∷ entries_from groups (drop 1 pins) part.behind rest

  -- the entries of a row, and what is behind them, where nothing moves
  abbrev pub entries : Headers → List ℕ → List Entry
  entries h row = entries_from h.groups h.pinned (parts at row).lead (parts at row).rest

  abbrev pub row_end : List ℕ → List ℕ
  row_end row = end_of (parts at row).lead (parts at row).rest

  -- a tail without its comma, and without a whitespace leaf directly before that
  abbrev pub without_comma : List ℕ → List ℕ
  without_comma [] = []
  without_comma (n ∷ []) = if is_comma_at at n then [] else n ∷ []
  without_comma (n ∷ m ∷ rest) =
      if is_comma_at at n then m ∷ rest else (if is_whitespace_at at n && is_comma_at at m then rest else n ∷ without_comma (m ∷ rest))

  -- a tail that has its comma, or gets one directly behind the element; or one that has none, or loses it
  abbrev pub tail_with : Bool → List ℕ → List Slot
  tail_with true tail = if has_comma at tail then all_stay tail else comes (token 0x2C) ∷ all_stay tail
  tail_with false tail = if has_comma at tail then all_stay (without_comma tail) else all_stay tail

  -- what travels, before an element that comes first without the blank lines in front
  abbrev pub travelling : Bool → List ℕ → List ℕ
  travelling true row = drop (blank_lines at row) row
  travelling false row = row

  -- an entry in the place of another: what stays is that of the place, what travels that of the element
  abbrev pub placed_one : Bool → Bool → Entry × Entry → List Slot
  placed_one first comma p =
      all_stay p.0.lead.front ++ all_stay (travelling first p.1.lead.travels) ++ all_stay p.0.lead.indent ++ stays p.1.element ∷ tail_with comma p.1.tail

  -- each with its comma, the last with one if the last has had one
  abbrev pub placed : Bool → Bool → List (Entry × Entry) → List Slot
  placed first commas [] = []
  placed first commas (p ∷ []) = placed_one first commas p
  placed first commas (p ∷ q ∷ rest) = placed_one first true p ++ placed false commas (q ∷ rest)

  abbrev pub ends_with_comma : List Entry → Bool
  ends_with_comma [] = false
  ends_with_comma (e ∷ []) = has_comma at e.tail
  ends_with_comma (e ∷ next ∷ es) = ends_with_comma (next ∷ es)

  -- the entries in the places of these, by their numbers
  abbrev pub rearranged : List Entry → List ℕ → List Slot
  rearranged es order = placed true (ends_with_comma es) (zip es (map (entry_at es) order))

  -- what is in a place
  abbrev pub slot_content : Slot → Content
  slot_content (stays n) = at n
  slot_content (comes content) = content

  -- something else than whitespace and a line's end comes next, if it is the last bracket
  abbrev pub goes_on : List Slot → Bool
  goes_on [] = true
  goes_on (slot ∷ row) = if is_whitespace (slot_content slot) then goes_on row else not (is_newline (slot_content slot))

  -- a line's end comes behind each line comment on whose line something else would follow
  abbrev pub lines_ended : CstNewlineKind → List Slot → List Slot
  lines_ended kind [] = []
  lines_ended kind (slot ∷ row) =
      if is_line_comment (slot_content slot) && goes_on row then slot ∷ comes (newline kind) ∷ lines_ended kind row else slot ∷ lines_ended kind row

  -- the row between the brackets with its elements in an order, which names the old number of each; an order that is the old one changes nothing
  abbrev pub sorted : CstNewlineKind → Headers → List ℕ → List ℕ → List Slot
  sorted kind h row order =
      if is_unchanged order then all_stay row else lines_ended kind (rearranged (entries h row) order ++ all_stay (row_end row))
