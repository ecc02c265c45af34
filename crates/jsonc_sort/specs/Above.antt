-- What rules of headers and groups are asked with: whether a blank line stands before an element, how many comments stand above it, and how many of these above
-- the last blank line.
use Rattle.std.specs.Prelude.{ℕ, zero, suc, ◌-◌, Bool, true, false, ◌||◌, List, [], ◌∷◌, drop, filter, map, take, Option, Some, None, IsTrue, if◌then◌else◌}
use Rattle.std.specs.List.{flat_map, list_any}
use Rattle.jsonc_tree.specs.Content.{Content}
use Rattle.jsonc_tree.specs.Tree.{Node, children_at, content_at}
use Rattle.jsonc_edit.specs.remove.Removed.{has_brackets}
use Rattle.jsonc_edit.specs.multiline.Lines.{between}
use Rattle.jsonc_sort.specs.Parts.{Part, is_newline_at, parts, up_to_spaces}
use Rattle.jsonc_sort.specs.Leads.{below, comments, first_line, has_blank_line, is_comment_at}
use Rattle.jsonc_sort.specs.Sorting.{Headers, first_pin}
use Rattle.jsonc_sort.specs.declared.above.LeadRead.{LeadRead}

-- what stands before each element
abbrev pub leads_from : List ℕ → List Part → List (List ℕ)
leads_from lead [] = []
leads_from lead (part ∷ rest) = lead ∷ leads_from part.behind rest

-- no comment is pinned
abbrev pub pins_none : Option ℕ → Bool
pins_none None = true
pins_none (Some zero) = true
pins_none (Some (suc i)) = false

module _ (at : ℕ → Content) where
  abbrev pub leads : List ℕ → List (List ℕ)
  leads row = leads_from (parts at row).lead (parts at row).rest

  -- of a lead in which a line ends, what is behind that end, up to the whitespace directly before the element
  abbrev pub above_from : List ℕ → List ℕ
  above_from rest = take (up_to_spaces at rest) rest

  abbrev pub above : List ℕ → List ℕ
  above lead = if list_any (is_newline_at at) lead then above_from (drop (first_line at lead) lead) else []

  abbrev pub comments_above : List ℕ → List ℕ
  comments_above lead = filter (is_comment_at at) (above lead)

  -- how many comments of a lead are a header: those above an element but those below its last blank line
  abbrev pub header : List ℕ → ℕ
  header lead = comments at (above lead) - comments at (below at lead)

  -- what a rule is asked with
  abbrev pub lead_read : List ℕ → LeadRead
  lead_read lead = record { blank_line = has_blank_line at lead; comments = comments at (above lead); header = header lead }

  -- above each element comments are pinned only where a blank line stands before it
  abbrev pub PinUnderBlankLines : List (Option ℕ) → List (List ℕ) → Type 0
  PinUnderBlankLines pins [] = Unit {0}
  PinUnderBlankLines pins (lead ∷ rest) = IsTrue (pins_none (first_pin pins) || has_blank_line at lead) × PinUnderBlankLines (drop 1 pins) rest

-- of each element of c, which has its brackets; else of none
abbrev pub leads_at : List Node → ℕ → List (List ℕ)
leads_at ns c = if has_brackets ns c then leads (content_at ns) (between (children_at ns c)) else []

-- the comments above its elements, one element's after another's
abbrev pub all_comments_above : List Node → ℕ → List ℕ
all_comments_above ns c = flat_map (comments_above (content_at ns)) (leads_at ns c)

abbrev pub leads_read : List Node → ℕ → List LeadRead
leads_read ns c = map (lead_read (content_at ns)) (leads_at ns c)

-- and so above the elements of c
abbrev pub PinsUnderBlankLines : List Node → ℕ → Headers → Type 0
PinsUnderBlankLines ns c h = PinUnderBlankLines (content_at ns) h.pinned (leads_at ns c)
