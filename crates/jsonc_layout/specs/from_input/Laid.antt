-- The nodes that a value is laid out as.
use Rattle.std.specs.Prelude.{ℕ, Bool, true, false, ◌||◌, List, [], ◌∷◌, encode_utf8_all, if◌then◌else◌}
use Rattle.jsonc_text.specs.Plain.{Plain, Items, no_items, item, Members, no_members, member}
use Rattle.jsonc_tree.specs.Content.{Content, token, whitespace, newline}
use Rattle.jsonc_tree.specs.OrderedTree.{OrderedTree, Top, none, more}
use Rattle.jsonc_text.specs.Spelling.{spelled}
use Rattle.jsonc_layout.specs.from_input.Layout.{Layout, deeper}

-- a leaf alone
abbrev pub leaf : Content → Top
leaf content = record { content = content; below = none }

-- a leaf, and then a row
abbrev pub leaf_then : Content → OrderedTree → OrderedTree
leaf_then content row = more content none row

-- a node, and then a row
abbrev pub node_then : Top → OrderedTree → OrderedTree
node_then node row = more node.content node.below row

-- one space, and then a row
abbrev pub space_then : OrderedTree → OrderedTree
space_then row = leaf_then (whitespace (0x20 ∷ [])) row

-- a token and a space, and then a row
abbrev pub spaced : ℕ → OrderedTree → OrderedTree
spaced mark row = leaf_then (token mark) (space_then row)

-- a comma where one is wanted, and then a row
abbrev pub comma_if : Bool → OrderedTree → OrderedTree
comma_if true row = leaf_then (token 0x2C) row
comma_if false row = row

-- a comma and a space where nodes are to be parted, and then a row
abbrev pub gap_if : Bool → OrderedTree → OrderedTree
gap_if true row = spaced 0x2C row
gap_if false row = row

-- the end of a line and the indent of the next one, which is a leaf even where it is empty, and then a row
abbrev pub line_then : Layout → OrderedTree → OrderedTree
line_then layout row = leaf_then (newline layout.newline) (leaf_then (whitespace layout.current) row)

abbrev pub is_some_node : List Top → Bool
is_some_node [] = false
is_some_node (node ∷ nodes) = true

-- nodes on one line, with a comma and a space after each that others follow, and then a row
abbrev pub on_one_line : List Top → OrderedTree → OrderedTree
on_one_line [] row = row
on_one_line (node ∷ nodes) row = node_then node (gap_if (is_some_node nodes) (on_one_line nodes row))

-- nodes on lines of their own, with a comma after each that others follow, and after the last where trailing commas are used, and then a row
abbrev pub on_lines : Layout → List Top → OrderedTree → OrderedTree
on_lines layout [] row = row
on_lines layout (node ∷ nodes) row = line_then layout (node_then node (comma_if (layout.trailing_commas || is_some_node nodes) (on_lines layout nodes row)))

-- an array or an object with something in it
abbrev pub is_filled : Plain → Bool
is_filled (Plain.array (item v vs)) = true
is_filled (Plain.object (member name v ms)) = true
is_filled _ = false

-- one of the elements is
abbrev pub holds_filled : Items → Bool
holds_filled no_items = false
holds_filled (item v vs) = is_filled v || holds_filled vs

-- a string's leaf, as it is spelled
abbrev pub string_leaf : List ℕ → Content
string_leaf s = Content.string (encode_utf8_all (spelled s))

-- a number's leaf, with its text
abbrev pub number_leaf : List ℕ → Content
number_leaf s = Content.number (encode_utf8_all s)

-- a closing bracket
abbrev pub closed : ℕ → OrderedTree
closed bracket = leaf_then (token bracket) none

-- a node with its first leaf
abbrev pub begun : Content → Content → Top
begun content first = record { content = content; below = leaf_then first none }

-- a property: its name, a colon, a space and its value
abbrev pub property_of : List ℕ → Top → Top
property_of name value = record { content = Content.property; below = leaf_then (string_leaf name) (spaced 0x3A (node_then value none)) }

-- nodes on lines of their own, one level deeper, and then a row on the next line; or, where there are none, the row at once
abbrev pub spread : Layout → List Top → OrderedTree → OrderedTree
spread layout [] row = row
spread layout (node ∷ nodes) row = on_lines (deeper layout) (node ∷ nodes) (line_then layout row)

abbrev mutual
  -- the node of a value: a leaf; an array on one line, or on several where one of its elements is filled; or an object on several lines
  pub laid : Layout → Plain → Top
  laid layout Plain.null = leaf Content.null
  laid layout (Plain.boolean b) = leaf (Content.boolean b)
  laid layout (Plain.number s) = leaf (number_leaf s)
  laid layout (Plain.string s) = leaf (string_leaf s)
  laid layout (Plain.array vs)
      = record {
        content = Content.array;
        below = leaf_then (token 0x5B)
            (if holds_filled vs then spread layout (laid_items (deeper layout) vs) (closed 0x5D) else on_one_line
            (laid_items layout vs) (closed 0x5D));
      }
  laid layout (Plain.object ms)
      = record {
        content = Content.object;
        below = leaf_then (token 0x7B) (spread layout (laid_members (deeper layout) ms) (closed 0x7D));
      }

  -- the nodes of elements
  pub laid_items : Layout → Items → List Top
  laid_items layout no_items = []
  laid_items layout (item v vs) = laid layout v ∷ laid_items layout vs

  -- the nodes of properties
  pub laid_members : Layout → Members → List Top
  laid_members layout no_members = []
  laid_members layout (member name v ms) = property_of name (laid layout v) ∷ laid_members layout ms

-- the node of a property
abbrev pub laid_property : Layout → List ℕ → Plain → Top
laid_property layout name v = property_of name (laid layout v)

-- the elements of an array, and then a row
abbrev pub elements_row : Layout → Items → OrderedTree → OrderedTree
elements_row layout vs row = if holds_filled vs then spread layout (laid_items (deeper layout) vs) row else on_one_line (laid_items layout vs) row

-- the properties of an object, and then a row
abbrev pub properties_row : Layout → Members → OrderedTree → OrderedTree
properties_row layout ms row = spread layout (laid_members (deeper layout) ms) row
