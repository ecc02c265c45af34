-- Who stands beside a node, above and below one.
use Rattle.std.specs.Prelude.{ℕ, ◌-◌, ◌<◌, ◌==◌, Bool, not, List, drop, reverse, filter, length, Option, option_map, IfSome}
use Rattle.std.specs.List.{find, take_while, All}
use Rattle.jsonc_tree.specs.Tree.{Node, parent_at, children_at, place_at}
use Rattle.jsonc_tree.specs.Order.{upward}
pub use Rattle.jsonc_tree.specs.Siblings.{first, row_of, siblings_after, siblings_before}
use Rattle.jsonc_layout.specs.nodes.Kinds.{is_element_at, is_newline_at}

abbrev pub is_no_newline_at : List Node → ℕ → Bool
is_no_newline_at ns m = not (is_newline_at ns m)

-- the siblings before a node on its line, first to last
abbrev pub line_before : List Node → ℕ → List ℕ
line_before ns n = reverse (take_while (is_no_newline_at ns) (siblings_before ns n))

-- the children of a node's parent from the first on the node's line on
abbrev pub row_from_line : List Node → ℕ → List ℕ
row_from_line ns n = drop (place_at ns n - length (line_before ns n)) (row_of ns n)

-- each of these nodes is there
abbrev pub AreThere : List Node → List ℕ → Type 0
AreThere ns ms = All (λ m. m < length ns) ms

-- the node is there, if there is one
abbrev pub IsThere : List Node → Option ℕ → Type 0
IsThere ns found = IfSome found (λ m. m < length ns)

-- the root, where it stands above the node
abbrev pub root_above : List Node → ℕ → Option ℕ
root_above ns n = find (λ m. m == 0) (upward ns (parent_at ns n))

-- the elements of a container in order
abbrev pub elements_at : List Node → ℕ → List ℕ
elements_at ns n = filter (is_element_at ns) (children_at ns n)

-- the nearest element after a node, and before it, among its siblings
abbrev pub next_element_at : List Node → ℕ → Option ℕ
next_element_at ns n = find (is_element_at ns) (siblings_after ns n)

abbrev pub previous_element_at : List Node → ℕ → Option ℕ
previous_element_at ns n = find (is_element_at ns) (siblings_before ns n)

-- how many elements of its parent stand before the node, if it has one
abbrev pub element_index_at : List Node → ℕ → Option ℕ
element_index_at ns n = option_map (λ p. length (filter (is_element_at ns) (siblings_before ns n))) (parent_at ns n)
