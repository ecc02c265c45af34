-- The row of an array or object on several lines.
use Rattle.std.specs.Prelude.{ℕ, ◌-◌, ◌++◌, List, [], ◌∷◌, length, map, take, drop, slice_range, if◌then◌else◌}
use Rattle.std.specs.List.{flat_map, onto_first, prefix_len, suffix_len}
use Rattle.jsonc_tree.specs.Content.{Content, newline, whitespace}
use Rattle.jsonc_tree.specs.Tree.{Node, children_at}
use Rattle.jsonc_tree.specs.declared.node.CstNewlineKind.{CstNewlineKind}
use Rattle.jsonc_layout.specs.nodes.Kinds.{is_comma_at, is_whitespace_at}
use Rattle.jsonc_layout.specs.lines.Breadth.{newline_kind_at}
use Rattle.jsonc_layout.specs.lines.Indents.{indents_at}
use Rattle.jsonc_edit.specs.multiline.Slots.{Slot, stays, comes}

-- how lines end, the indent of what stands in the container, and that of its last bracket
pub record Lines : Type 0 where
  pub newline : CstNewlineKind
  pub inner : List ℕ
  pub outer : List ℕ

-- as the document tells for a container
abbrev pub lines_for : List Node → ℕ → Lines
lines_for ns c = record { newline = newline_kind_at ns c; inner = (indents_at ns c).current ++ (indents_at ns c).single; outer = (indents_at ns c).current }

-- the parts of a row, each through its comma, and what is behind the last comma
abbrev pub parts : List Node → List ℕ → List (List ℕ)
parts ns [] = []
parts ns (n ∷ row) = if is_comma_at ns n then (n ∷ []) ∷ parts ns row else onto_first n (parts ns row)

-- a row without the whitespace that it begins with, or ends with
abbrev pub without_front : List Node → List ℕ → List ℕ
without_front ns row = drop (prefix_len (is_whitespace_at ns) row) row

abbrev pub without_back : List Node → List ℕ → List ℕ
without_back ns row = take (length row - suffix_len (is_whitespace_at ns) row) row

-- a new line: the end of one, and an indent, which is a leaf even where it is empty
abbrev pub new_line : Lines → List Slot
new_line lines = comes (newline lines.newline) ∷ comes (whitespace lines.inner) ∷ []

-- a part on a line of its own, if anything is left of it
abbrev pub on_line : Lines → List ℕ → List Slot
on_line lines [] = []
on_line lines (n ∷ part) = new_line lines ++ map stays (n ∷ part)

-- the last line begins so: its indent is no leaf where it is empty
abbrev pub indent_if_any : List ℕ → List Content
indent_if_any [] = []
indent_if_any (c ∷ rest) = whitespace (c ∷ rest) ∷ []

abbrev pub last_leaves : Lines → List Content
last_leaves lines = newline lines.newline ∷ indent_if_any lines.outer

abbrev pub last_line : Lines → List Slot
last_line lines = map comes (last_leaves lines)

-- what stands between the brackets, each part on a line of its own and without the whitespace around it, and then the line of the last bracket
abbrev pub on_lines : Lines → List Node → List ℕ → List Slot
on_lines lines ns row = flat_map (λ part. on_line lines (without_front ns part)) (parts ns (without_back ns row)) ++ last_line lines

-- what stands between the first and the last of a row
abbrev pub between : List ℕ → List ℕ
between row = slice_range row 1 (length row - 1)

-- what stands between the brackets of c, on several lines
abbrev pub spread_row : Lines → List Node → ℕ → List Slot
spread_row lines ns c = on_lines lines ns (between (children_at ns c))
