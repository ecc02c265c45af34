-- Lines, and what they begin with.
use Rattle.std.specs.Prelude.{Bool, false, ◌||◌, ◌&&◌, ℕ, List, [], ◌∷◌, Option, Some, None, is_some, option_and_then, if◌then◌else◌}
use Rattle.std.specs.List.{flat_map, take_while, list_all, list_any}
use Rattle.jsonc_tree.specs.Order.{text_at}
use Rattle.jsonc_tree.specs.Tree.{Node}
use Rattle.jsonc_layout.specs.nodes.Kinds.{is_newline_at, is_trivia_at, is_whitespace_at}
use Rattle.jsonc_layout.specs.nodes.Properties.{element_from}
use Rattle.jsonc_layout.specs.nodes.Siblings.{first, line_before, siblings_before}
use Rattle.jsonc_layout.specs.lines.Kinds.{blank_at}

-- a line's end stands here, or after whitespace
abbrev pub comes_to_newline : List Node → List ℕ → Bool
comes_to_newline ns [] = false
comes_to_newline ns (m ∷ rest) = is_newline_at ns m || (is_whitespace_at ns m && comes_to_newline ns rest)

-- two lines' ends have nothing but whitespace between them
abbrev pub has_blank_line : List Node → List ℕ → Bool
has_blank_line ns [] = false
has_blank_line ns (m ∷ rest) = (is_newline_at ns m && comes_to_newline ns rest) || has_blank_line ns rest

-- the trivia directly before the node have a blank line
abbrev pub blank_line_before : List Node → ℕ → Bool
blank_line_before ns n = has_blank_line ns (take_while (is_trivia_at ns) (siblings_before ns n))

-- nothing but trivia stands before the node on its line
abbrev pub begins_line : List Node → ℕ → Bool
begins_line ns n = list_all (is_trivia_at ns) (line_before ns n)

-- a line ends before the node
abbrev pub follows_newline : List Node → ℕ → Bool
follows_newline ns n = list_any (is_newline_at ns) (siblings_before ns n)

-- the whitespace leaf that the node's line begins with
abbrev pub first_blank_at : List Node → ℕ → Option (List ℕ)
first_blank_at ns n = option_and_then (blank_at ns) (first (line_before ns n))

-- the whitespace that a row begins with, joined
abbrev pub blanks : List Node → List ℕ → List ℕ
blanks ns row = flat_map (text_at ns) (take_while (is_whitespace_at ns) row)

-- the same of the node's line
abbrev pub blanks_at : List Node → ℕ → List ℕ
blanks_at ns n = blanks ns (line_before ns n)

-- the indent of the node: that whitespace, if there is any leaf of it, and nothing but trivia stands
-- before the node on its line
abbrev pub indent_at : List Node → ℕ → Option (List ℕ)
indent_at ns n = if begins_line ns n && is_some (first_blank_at ns n) then Some (blanks_at ns n) else None

-- the whitespace leaf directly after the nearest line's end before the node
abbrev pub opening_at : List Node → ℕ → Option (List ℕ)
opening_at ns n = if follows_newline ns n then first_blank_at ns n else None

-- the first element of the document's value
abbrev pub first_element_of_value : List Node → Option ℕ
first_element_of_value ns = option_and_then (λ value. element_from ns value 0) (element_from ns 0 0)

-- one level's indent: that leaf before the first element of the document's value
abbrev pub single_indent_of : List Node → Option (List ℕ)
single_indent_of ns = option_and_then (opening_at ns) (first_element_of_value ns)
