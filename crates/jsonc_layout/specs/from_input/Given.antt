-- What the calls are given, laid out.
use Rattle.std.specs.Prelude.{ℕ, List, chars}
use Rattle.jsonc_text.specs.Plain.{Plain}
use Rattle.jsonc_tree.specs.OrderedTree.{OrderedTree, Top}
use Rattle.jsonc_layout.specs.input.Views.{plain, items_plain, members_plain}
use Rattle.jsonc_layout.specs.declared.input.value.CstInputValue.{CstInputValue}
use Rattle.std.specs.declared.string.String.{String}
use Rattle.jsonc_layout.specs.from_input.Layout.{layout_of}
use Rattle.jsonc_layout.specs.from_input.Laid.{laid, laid_items, laid_members, laid_property, on_lines, on_one_line, elements_row, properties_row, line_then}
use Rattle.jsonc_layout.specs.declared.from_input.layout.Layout.{Layout}

module _ {A : Type 0} where
  -- the node of a value, and that of a property with this text as its name
  abbrev pub value_node : Layout A → CstInputValue A → Top
  value_node l v = laid (layout_of l) (plain v)

  abbrev pub property_node : Layout A → List ℕ → CstInputValue A → Top
  property_node l name v = laid_property (layout_of l) (chars name) (plain v)

  -- that of an array and of an object, and what stands between their brackets
  abbrev pub array_node : Layout A → List (CstInputValue A) → Top
  array_node l vs = laid (layout_of l) (Plain.array (items_plain vs))

  abbrev pub object_node : Layout A → List (String A × CstInputValue A) → Top
  object_node l ps = laid (layout_of l) (Plain.object (members_plain ps))

  abbrev pub array_row : Layout A → List (CstInputValue A) → OrderedTree → OrderedTree
  array_row l vs row = elements_row (layout_of l) (items_plain vs) row

  abbrev pub object_row : Layout A → List (String A × CstInputValue A) → OrderedTree → OrderedTree
  object_row l ps row = properties_row (layout_of l) (members_plain ps) row

  -- the beginning of a line
  abbrev pub new_line : Layout A → OrderedTree → OrderedTree
  new_line l row = line_then (layout_of l) row

  -- elements on one line or on several, and properties on several
  abbrev pub element_line : Layout A → List (CstInputValue A) → OrderedTree → OrderedTree
  element_line l vs row = on_one_line (laid_items (layout_of l) (items_plain vs)) row

  abbrev pub element_lines : Layout A → List (CstInputValue A) → OrderedTree → OrderedTree
  element_lines l vs row = on_lines (layout_of l) (laid_items (layout_of l) (items_plain vs)) row

  abbrev pub property_lines : Layout A → List (String A × CstInputValue A) → OrderedTree → OrderedTree
  property_lines l ps row = on_lines (layout_of l) (laid_members (layout_of l) (members_plain ps)) row
