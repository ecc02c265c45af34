-- A worked value to be written, `{"a":[1]}`, and a layout for it.
use Rattle.std.specs.Prelude.{false, [], codes}
use Rattle.jsonc_text.specs.Plain.{Plain, no_items, item, no_members, member}
use Rattle.jsonc_tree.specs.declared.node.CstNewlineKind.TheVariants.{LineFeed}
use Rattle.jsonc_layout.specs.from_input.Layout.{Layout}

-- two spaces a level, no trailing commas
abbrev pub two_spaces : Layout
two_spaces = record { current = []; single = codes "  "; trailing_commas = false; newline = LineFeed }

abbrev pub worked_value : Plain
worked_value = Plain.object (member (codes "a") (Plain.array (item (Plain.number (codes "1")) no_items)) no_members)
