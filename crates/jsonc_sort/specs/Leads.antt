-- What stands before an element, its lead: what of it stays in its place, and what goes where the element goes.
use Rattle.std.specs.Prelude.{ℕ, zero, suc, ◌-◌, ◌+◌, Bool, false, ◌&&◌, ◌||◌, not, List, [], ◌∷◌, ◌++◌, count_by, drop, length, max, nat_le, take, Option, Some, None, if◌then◌else◌}
use Rattle.std.specs.List.{list_any, prefix_len, suffix_len, take_while, position_or_len}
use Rattle.jsonc_tree.specs.Content.{Content}
use Rattle.jsonc_layout.specs.nodes.Kinds.{is_comment}
use Rattle.jsonc_sort.specs.Parts.{is_newline_at, is_no_newline_at, is_whitespace_at, up_to_spaces}

-- what stays in front, what travels, and the indent, which stays
pub record LeadParts : Type 0 where
  pub front : List ℕ
  pub travels : List ℕ
  pub indent : List ℕ

module _ (at : ℕ → Content) where
  abbrev pub is_comment_at : ℕ → Bool
  is_comment_at n = is_comment (at n)

  abbrev pub is_blank_at : ℕ → Bool
  is_blank_at n = is_whitespace_at at n || is_newline_at at n

  -- a line's end comes next, past whitespace
  abbrev pub line_ends : List ℕ → Bool
  line_ends [] = false
  line_ends (n ∷ row) = if is_whitespace_at at n then line_ends row else is_newline_at at n

  -- two ends of lines have nothing but whitespace between them
  abbrev pub has_blank_line : List ℕ → Bool
  has_blank_line [] = false
  has_blank_line (n ∷ row) = (is_newline_at at n && line_ends row) || has_blank_line row

  -- what stands below the last blank line of a lead; where it has none, behind the first end of a line
  abbrev pub below : List ℕ → List ℕ
  below [] = []
  below (n ∷ row) = if is_newline_at at n && not (has_blank_line row) then row else below row

  -- what of a lead belongs to the entry: that, or all of it, where no line ends in it
  abbrev pub own_lead : List ℕ → List ℕ
  own_lead lead = if list_any (is_newline_at at) lead then below lead else lead

  -- how many nodes at the front are lines of blanks alone, each with its end
  abbrev pub blank_lines : List ℕ → ℕ
  blank_lines row = up_to_spaces at (take_while is_blank_at row)

  -- what stands before the comment number i, or all where there are not so many
  abbrev pub before_comment : ℕ → List ℕ → List ℕ
  before_comment i [] = []
  before_comment zero (n ∷ row) = if is_comment_at n then [] else n ∷ before_comment zero row
  before_comment (suc i) (n ∷ row) = if is_comment_at n then n ∷ before_comment i row else n ∷ before_comment (suc i) row

  -- how many nodes it is through the last end of a line
  abbrev pub through_last_line : List ℕ → ℕ
  through_last_line row = length row - suffix_len (is_no_newline_at at) row

  -- how many comments there are; and how many nodes are the header, where so many comments are pinned
  abbrev pub comments : List ℕ → ℕ
  comments row = count_by is_comment_at row

  abbrev pub header_of : ℕ → List ℕ → ℕ
  header_of zero row = blank_lines row
  header_of (suc i) row = max (blank_lines row) (through_last_line (before_comment (suc i) row))

  abbrev pub header_by : Option ℕ → List ℕ → ℕ
  header_by None row = 0
  header_by (Some count) row = if nat_le (comments row) count then length row else header_of count row

  -- all of it, where the element begins a group; else by the comments that are pinned, if a rule pins any
  abbrev pub header_length : Bool → Option ℕ → List ℕ → ℕ
  header_length begins pinned row = if begins then length row else header_by pinned row

  -- a lead in which no line ends: the whitespace that it begins with stays
  abbrev pub spaces : List ℕ → ℕ
  spaces row = prefix_len (is_whitespace_at at) row

  abbrev pub parts_of_line : List ℕ → LeadParts
  parts_of_line lead = record { front = take (spaces lead) lead; travels = drop (spaces lead) lead; indent = [] }

  -- one in which a line ends: what is through its end stays, and a header behind that, and the whitespace before the element
  abbrev pub with_header : List ℕ → ℕ → List ℕ → List ℕ → LeadParts
  with_header first header above indent = record { front = first ++ take header above; travels = drop header above; indent = indent }

  abbrev pub parts_behind : Bool → Option ℕ → List ℕ → List ℕ → List ℕ → LeadParts
  parts_behind begins pinned first above indent = with_header first (header_length begins pinned above) above indent

  abbrev pub parts_of_rest : Bool → Option ℕ → List ℕ → List ℕ → LeadParts
  parts_of_rest begins pinned first rest = parts_behind begins pinned first (take (up_to_spaces at rest) rest) (drop (up_to_spaces at rest) rest)

  abbrev pub first_line : List ℕ → ℕ
  first_line lead = position_or_len (is_newline_at at) lead + 1

  abbrev pub parts_of_lines : Bool → Option ℕ → List ℕ → LeadParts
  parts_of_lines begins pinned lead = parts_of_rest begins pinned (take (first_line lead) lead) (drop (first_line lead) lead)

  -- where groups are kept, a blank line begins one
  abbrev pub begins_group : Bool → List ℕ → Bool
  begins_group groups lead = groups && has_blank_line lead

  abbrev pub lead_parts : Bool → Option ℕ → List ℕ → LeadParts
  lead_parts groups pinned lead =
      if list_any (is_newline_at at) lead then parts_of_lines (begins_group groups lead) pinned lead else parts_of_line lead
