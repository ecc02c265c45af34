-- What stands between the brackets of an array or object, in parts: its elements, what belongs to each, and what is between.
-- A row is a list of nodes by their numbers; `at` tells what each is.
use Rattle.std.specs.Prelude.{ℕ, suc, ◌+◌, ◌-◌, Bool, true, false, not, ◌&&◌, ◌||◌, List, [], ◌∷◌, length, take, drop, if◌then◌else◌}
use Rattle.std.specs.List.{list_all, list_any, suffix_len, take_while}
use Rattle.jsonc_tree.specs.Content.{Content}
use Rattle.jsonc_layout.specs.nodes.Kinds.{is_comma, is_inline_trivia, is_element, is_newline, is_whitespace}

-- an element; what belongs to it behind it: through its comma, and the comments on its line;
-- and what stands behind that, up to the next element or the last bracket
pub record Part : Type 0 where
  pub element : ℕ
  pub tail : List ℕ
  pub behind : List ℕ

-- what stands before the first element, or where there is none at all; and the parts from there on
pub record Parts : Type 0 where
  pub lead : List ℕ
  pub rest : List Part

-- no part is left
abbrev pub is_none : List Part → Bool
is_none [] = true
is_none (part ∷ parts) = false

module _ (at : ℕ → Content) where
  abbrev pub is_comma_at : ℕ → Bool
  is_comma_at n = is_comma (at n)

  abbrev pub is_newline_at : ℕ → Bool
  is_newline_at n = is_newline (at n)

  abbrev pub is_no_newline_at : ℕ → Bool
  is_no_newline_at n = not (is_newline_at n)

  abbrev pub is_whitespace_at : ℕ → Bool
  is_whitespace_at n = is_whitespace (at n)

  abbrev pub is_inline_trivia_at : ℕ → Bool
  is_inline_trivia_at n = is_inline_trivia (at n)

  -- of nodes between an element and the next one or the last bracket: how many it is through the comma, if there is one
  abbrev pub has_comma : List ℕ → Bool
  has_comma gap = list_any is_comma_at gap

  abbrev pub through_comma : List ℕ → ℕ
  through_comma [] = 0
  through_comma (n ∷ gap) = if is_comma_at n then 1 else (if has_comma gap then suc (through_comma gap) else 0)

  -- how many it is up to the whitespace that these end with
  abbrev pub up_to_spaces : List ℕ → ℕ
  up_to_spaces row = length row - suffix_len is_whitespace_at row

  -- the line that these begin with is whitespace and comments alone, up to the end of the line, or up to the last bracket
  abbrev pub line : List ℕ → List ℕ
  line row = take_while is_no_newline_at row

  abbrev pub is_own_line : Bool → List ℕ → Bool
  is_own_line last row = (last || list_any is_newline_at row) && list_all is_inline_trivia_at (line row)

  -- how many it is through the last comment of such a line
  abbrev pub comments_on_line : Bool → List ℕ → ℕ
  comments_on_line last row = if is_own_line last row then up_to_spaces (line row) else 0

  -- how many belong to the element, which is the last or not
  abbrev pub tail_length : Bool → List ℕ → ℕ
  tail_length last gap = through_comma gap + comments_on_line last (drop (through_comma gap) gap)

  -- an element before a gap; the parts with one node more in front
  abbrev pub part_with : ℕ → Bool → List ℕ → Part
  part_with n last gap = record { element = n; tail = take (tail_length last gap) gap; behind = drop (tail_length last gap) gap }

  abbrev pub with_node : ℕ → Parts → Parts
  with_node n p =
      if is_element (at n) then record { lead = []; rest = part_with n (is_none p.rest) p.lead ∷ p.rest } else record { lead = n ∷ p.lead; rest = p.rest }

  abbrev pub parts : List ℕ → Parts
  parts [] = record { lead = []; rest = [] }
  parts (n ∷ row) = with_node n (parts row)
