-- The nodes below a node, level after level.
use Rattle.std.specs.Prelude.{ℕ, zero, suc, Bool, false, ◌&&◌, List, [], ◌∷◌, ◌++◌, length, reverse, ◌==◌, ◌||◌, Option, Some, None, is_some, option_and_then, if◌then◌else◌}
use Rattle.std.specs.List.{find, flat_map, list_any}
use Rattle.jsonc_tree.specs.Content.{Content, newline}
use Rattle.jsonc_tree.specs.Tree.{Node, content_at, children_at}
use Rattle.jsonc_tree.specs.declared.node.CstNewlineKind.{CstNewlineKind}
use Rattle.jsonc_tree.specs.declared.node.CstNewlineKind.TheVariants.{LineFeed}
use Rattle.jsonc_layout.specs.nodes.Kinds.{is_element_at, is_newline_at, is_whitespace_at}
use Rattle.jsonc_layout.specs.nodes.Siblings.{root_above}
use Rattle.jsonc_layout.specs.lines.Kinds.{is_array_or_object}
use Rattle.jsonc_layout.specs.lines.Siblings.{trailing_comma_at}
use Rattle.jsonc_layout.specs.declared.lines.breadth.Sought.{Sought}
use Rattle.jsonc_layout.specs.declared.lines.breadth.Sought.TheVariants.{LineEnd, SpacedElements}

-- the children of these nodes, in order
abbrev pub level_below : List Node → List ℕ → List ℕ
level_below ns level = flat_map (children_at ns) level

-- these nodes and those below them, level after level, down to a depth
abbrev pub levels : ℕ → List Node → List ℕ → List ℕ
levels zero ns level = []
levels (suc depth) ns level = level ++ levels depth ns (level_below ns level)

-- a node and those below it, breadth first: no node is deeper than there are nodes
abbrev pub breadth_first : List Node → ℕ → List ℕ
breadth_first ns n = levels (length ns) ns (n ∷ [])

-- whitespace is among the children of the node
abbrev pub has_whitespace : List Node → ℕ → Bool
has_whitespace ns n = list_any (is_whitespace_at ns) (children_at ns n)

-- the last element of a row
abbrev pub last_element : List Node → List ℕ → Option ℕ
last_element ns row = find (is_element_at ns) (reverse row)

-- an array or object with whitespace and an element
abbrev pub is_spaced : List Node → ℕ → Bool
is_spaced ns n = is_array_or_object (content_at ns n) && (has_whitespace ns n && is_some (last_element ns (children_at ns n)))

-- the node is what is looked for: the end of a line, or an array or object with whitespace and an element
abbrev pub is_sought : List Node → Sought → ℕ → Bool
is_sought ns LineEnd n = is_newline_at ns n
is_sought ns SpacedElements n = is_spaced ns n

-- the first such node, level after level from these nodes down
abbrev pub first_sought : List Node → Sought → List ℕ → Option ℕ
first_sought ns sought start = find (is_sought ns sought) (levels (length ns) ns start)

-- how a line ends, LF where nothing tells
abbrev pub line_end_of : Content → CstNewlineKind
line_end_of (newline kind) = kind
line_end_of _ = LineFeed

abbrev pub line_end_at : List Node → Option ℕ → CstNewlineKind
line_end_at ns None = LineFeed
line_end_at ns (Some n) = line_end_of (content_at ns n)

-- the document's: that of the first line's end, breadth first, or LF
abbrev pub newline_kind_of : List Node → CstNewlineKind
newline_kind_of ns = line_end_at ns (first_sought ns LineEnd (0 ∷ []))

-- the node is the root, or below it
abbrev pub is_in_document : List Node → ℕ → Bool
is_in_document ns n = n == 0 || is_some (root_above ns n)

-- how lines end that are put in beside a node: as the document's do, and by LF in what stands apart from it
abbrev pub newline_kind_at : List Node → ℕ → CstNewlineKind
newline_kind_at ns n = if is_in_document ns n then newline_kind_of ns else LineFeed

-- a comma stands after the last element of the container
abbrev pub ends_with_comma : List Node → Option ℕ → Bool
ends_with_comma ns None = false
ends_with_comma ns (Some n) = is_some (option_and_then (trailing_comma_at ns) (last_element ns (children_at ns n)))

-- the first array or object with whitespace and an element, breadth first, has a comma after its last element
abbrev pub uses_trailing_commas_at : List Node → ℕ → Bool
uses_trailing_commas_at ns n = ends_with_comma ns (first_sought ns SpacedElements (n ∷ []))
