-- The rows of containers, and what stands last in a stretch of one.
use Rattle.std.specs.Prelude.{ℕ, Bool, true, false}
use Rattle.jsonc_text.specs.Options.{Options}
use Rattle.jsonc_tree.specs.Content.{Content, array, object}
use Rattle.jsonc_tree.specs.OrderedTree.{OrderedTree, none, more, Top}
use Rattle.jsonc_sound.specs.Shape.{token_then}

-- what a row's elements are: values in an array, properties in an object
pub data RowKind : Type 0 where
  of_values : RowKind
  of_properties : RowKind

-- the container with such a row
abbrev pub holder : RowKind → Content
holder of_values = array
holder of_properties = object

-- its first bracket
abbrev pub opening : RowKind → ℕ
opening of_values = 0x5B
opening of_properties = 0x7B

-- its last
abbrev pub closing : RowKind → ℕ
closing of_values = 0x5D
closing of_properties = 0x7D

-- the container with this row behind its first bracket
abbrev pub container_of : RowKind → OrderedTree → Top
container_of kind row = record { content = holder kind; below = token_then (opening kind) row }

-- what stood last in a row, trivia aside
pub data Last : Type 0 where
  nothing_yet : Last
  an_element : Last
  a_comma : Last

-- what stands last behind a node, where this stood last before it: trivia is passed over, and a token in a stretch is a comma
abbrev pub last_after : Last → Content → Last
last_after last (Content.whitespace s) = last
last_after last (Content.newline k) = last
last_after last (Content.comment s) = last
last_after last (Content.token c) = a_comma
last_after last content = an_element

-- what stands last behind a stretch
abbrev pub last_behind : Last → OrderedTree → Last
last_behind last none = last
last_behind last (more content below after) = last_behind (last_after last content) after

-- a comma may stand here: after an element
abbrev pub takes_comma : Last → Bool
takes_comma nothing_yet = false
takes_comma an_element = true
takes_comma a_comma = false

-- the last bracket may stand here: after a comma only where o allows it
abbrev pub may_end : Options → Last → Bool
may_end o nothing_yet = true
may_end o an_element = true
may_end o a_comma = o.trailing_commas
