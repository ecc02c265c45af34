-- How the value that replaces another is laid out, as the document tells where that one stands.
use Rattle.std.specs.Prelude.{◌≡◌, ℕ, Bool, true, false, List, Some, if◌then◌else◌}
use Rattle.jsonc_text.specs.Plain.{Plain, member}
use Rattle.jsonc_tree.specs.Tree.{Node, content_at, parent_at}
use Rattle.jsonc_layout.specs.nodes.Kinds.{is_property}
use Rattle.jsonc_layout.specs.lines.Indents.{indents_at}
use Rattle.jsonc_layout.specs.lines.Breadth.{newline_kind_at, uses_trailing_commas_at}
use Rattle.jsonc_layout.specs.from_input.Layout.{Layout}
use Rattle.jsonc_layout.specs.from_input.Laid.{holds_filled, laid}
use Rattle.jsonc_edit.specs.Replacing.{ReplacedBy, ReplacedByRaw}

-- the node whose containers tell whether trailing commas are used, for a child n of c: the value itself in a property, else the container
abbrev pub commas_told_by : List Node → ℕ → ℕ → ℕ
commas_told_by ns c n = if is_property (content_at ns c) then n else c

-- the layout for what replaces the child n of c: the indents and the lines' ends at c
abbrev pub layout_for : List Node → ℕ → ℕ → Layout
layout_for ns c n =
    record {
      current = (indents_at ns c).current;
      single = (indents_at ns c).single;
      trailing_commas = uses_trailing_commas_at ns (commas_told_by ns c n);
      newline = newline_kind_at ns c;
    }

-- a value that is laid out on several lines
abbrev pub is_spread : Plain → Bool
is_spread (Plain.array vs) = holds_filled vs
is_spread (Plain.object (member name v ms)) = true
is_spread v = false

-- the child n has been replaced by m, which is the value, laid out as the old nodes tell
abbrev pub IsReplaced : List Node → List Node → ℕ → Plain → ℕ → Type 0
IsReplaced old new n v m = (c : ℕ) × (parent_at old n ≡ Some c) × ReplacedBy old new n m (laid (layout_for old c n) v)

-- the same where no space has come, and c itself tells whether trailing commas are used
abbrev pub IsReplacedRaw : List Node → List Node → ℕ → Plain → ℕ → Type 0
IsReplacedRaw old new n v m = (c : ℕ) × (parent_at old n ≡ Some c) × ReplacedByRaw old new n m (laid (layout_for old c c) v)
