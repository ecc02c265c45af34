-- The indents for what is put in beside a node.
use Rattle.std.specs.Prelude.{ℕ, zero, suc, ◌+◌, ◌==◌, ◌&&◌, Bool, false, List, [], ◌∷◌, ◌++◌, map, length, drop, Option, Some, None, unwrap_or, option_and_then, option_map, is_some, nat_eq, if◌then◌else◌}
use Rattle.std.specs.Option.{option_or}
use Rattle.std.specs.List.{starts_with}
use Rattle.jsonc_tree.specs.Order.{upward}
use Rattle.jsonc_tree.specs.Tree.{Node, content_at, parent_at, children_at}
use Rattle.jsonc_layout.specs.nodes.Kinds.{is_newline_at, is_property, is_whitespace_at}
use Rattle.jsonc_layout.specs.nodes.Properties.{element_from}
use Rattle.jsonc_layout.specs.nodes.Siblings.{root_above}
use Rattle.jsonc_layout.specs.lines.Lines.{indent_at}

-- the indent of a line, and what one level adds
pub record IndentTexts : Type 0 where
  pub current : List ℕ
  pub single : List ℕ

-- there is such a node, and it is a property
abbrev pub is_some_property : List Node → Option ℕ → Bool
is_some_property ns None = false
is_some_property ns (Some n) = is_property (content_at ns n)

-- these nodes but for the properties in front
abbrev pub beyond_properties : List Node → List ℕ → List ℕ
beyond_properties ns [] = []
beyond_properties ns (n ∷ rest) = if is_property (content_at ns n) then beyond_properties ns rest else n ∷ rest

-- the nodes above a node but for the properties in front
abbrev pub above_properties : List Node → ℕ → List ℕ
above_properties ns n = beyond_properties ns (upward ns (parent_at ns n))

-- of these nodes, up to the root, those that are no property's value: each is a level of indent
abbrev pub levels_among : List Node → List ℕ → List ℕ
levels_among ns [] = []
levels_among ns (n ∷ rest) =
    if n == 0 then [] else (if is_some_property ns (parent_at ns n) then levels_among ns rest else n ∷ levels_among ns rest)

-- the nodes above a node that are levels of indent, nearest first; the property that a node stands in is none
abbrev pub levels_above : List Node → ℕ → List ℕ
levels_above ns n = levels_among ns (above_properties ns n)

-- the text without another at its front, if it begins with that
abbrev pub without_front : List ℕ → List ℕ → Option (List ℕ)
without_front outer inner = if starts_with nat_eq inner outer then Some (drop (length outer) inner) else None

-- what the inner indent has more than the outer one, if both are there and it begins with that
abbrev pub more_of : Option (List ℕ) → Option (List ℕ) → Option (List ℕ)
more_of (Some inner) (Some outer) = without_front outer inner
more_of _ _ = None

-- what the next indent outward is held against: this one, where none was held
abbrev pub held_after : Option (List ℕ) → Option (List ℕ) → Option (List ℕ)
held_after None outer = outer
held_after (Some inner) outer = None

-- the text, so many times
abbrev pub repeated : ℕ → List ℕ → List ℕ
repeated zero text = []
repeated (suc count) text = text ++ repeated count text

-- so many levels further in than a line with this indent
abbrev pub levels_in : List ℕ → ℕ → List ℕ → IndentTexts
levels_in outer count single = record { current = outer ++ repeated count single; single = single }

-- the two indents next to one another, outward, of which the inner begins with the outer, tell what one level adds
abbrev pub told_by : ℕ → Option (List ℕ) → List (Option (List ℕ)) → Option IndentTexts
told_by passed held [] = None
told_by passed held (outer ∷ rest) =
    option_or (option_map (levels_in (unwrap_or held []) passed) (more_of held outer)) (told_by (passed + 1) (held_after held outer) rest)

-- the same, of the lines of a node and of those above it
abbrev pub told_at : List Node → ℕ → List ℕ → Option IndentTexts
told_at ns n above = told_by 0 (indent_at ns n) (map (indent_at ns) above)

-- of a node's siblings before it, nearest first: the first one is whitespace that its line begins with
abbrev pub follows_first_blank : List Node → List ℕ → Bool
follows_first_blank ns [] = false
follows_first_blank ns (m ∷ []) = is_whitespace_at ns m
follows_first_blank ns (m ∷ (l ∷ rest)) = is_whitespace_at ns m && is_newline_at ns l

-- the first indent of these nodes
abbrev pub first_indent : List Node → List ℕ → Option (List ℕ)
first_indent ns [] = None
first_indent ns (n ∷ rest) = option_or (indent_at ns n) (first_indent ns rest)

-- the first indent of a node's children
abbrev pub first_indent_in : List Node → ℕ → Option (List ℕ)
first_indent_in ns n = first_indent ns (children_at ns n)

-- that of the document's value, where the node stands below the root: what is laid out at the root itself has no root above it
abbrev pub document_indent : List Node → ℕ → Option (List ℕ)
document_indent ns n =
    if is_some (root_above ns n) then option_and_then (first_indent_in ns) (element_from ns 0 0) else None

-- the node's own, where one level is above it
abbrev pub only_indent : List Node → ℕ → Option (List ℕ)
only_indent ns n = if length (levels_above ns n) == 1 then indent_at ns n else None

-- what one level adds, where no two lines tell: the node's indent, the document's, or two spaces
abbrev pub single_at : List Node → ℕ → List ℕ
single_at ns n = unwrap_or (option_or (only_indent ns n) (document_indent ns n)) (0x20 ∷ 0x20 ∷ [])

-- the indents at a node: told by the lines above it, or by what one level adds
abbrev pub indents_at : List Node → ℕ → IndentTexts
indents_at ns n =
    unwrap_or (told_at ns n (levels_above ns n)) (levels_in [] (length (levels_above ns n)) (single_at ns n))
