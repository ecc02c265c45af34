-- What a document tells of what comes into a container, read in the tree once blank lines inside its brackets have been removed.
use Rattle.std.specs.Prelude.{ℕ, ◌++◌, Bool, ◌||◌, List, Option, Some, None, is_some, slice_get}
use Rattle.std.specs.List.{list_any}
use Rattle.jsonc_text.specs.Plain.{Plain}
use Rattle.jsonc_tree.specs.Tree.{Node, children_at}
use Rattle.jsonc_layout.specs.nodes.Kinds.{is_newline_at}
use Rattle.jsonc_layout.specs.lines.Breadth.{newline_kind_at, uses_trailing_commas_at}
use Rattle.jsonc_layout.specs.lines.Indents.{IndentTexts, indents_at}
use Rattle.jsonc_layout.specs.from_input.Layout.{Layout}
use Rattle.jsonc_insert.specs.Planned.{elements}
pub use Rattle.jsonc_edit.specs.Reading.{is_spread}

-- the indents of what stands in a container: those at its first element, or one level deeper than the container where there is none
abbrev pub one_deeper : IndentTexts → IndentTexts
one_deeper i = record { current = i.current ++ i.single; single = i.single }

abbrev pub indents_by : List Node → ℕ → Option ℕ → IndentTexts
indents_by ns c None = one_deeper (indents_at ns c)
indents_by ns c (Some n) = indents_at ns n

abbrev pub indents_inside : List Node → ℕ → IndentTexts
indents_inside ns c = indents_by ns c (slice_get (elements ns (children_at ns c)) 0)

-- the indent of the container's own line
abbrev pub outer_indent : List Node → ℕ → List ℕ
outer_indent ns c = (indents_at ns c).current

-- how what comes into a container is laid out
abbrev pub layout_inside : List Node → ℕ → Layout
layout_inside ns c =
    record {
      current = (indents_inside ns c).current;
      single = (indents_inside ns c).single;
      trailing_commas = uses_trailing_commas_at ns c;
      newline = newline_kind_at ns c;
    }

-- a property comes on a line of its own; so does a value, where the row has a line's end or the value is laid out on several lines
abbrev pub on_several_lines : List Node → List ℕ → Option (List ℕ) → Plain → Bool
on_several_lines ns row name v = is_some name || (list_any (is_newline_at ns) row || is_spread v)
