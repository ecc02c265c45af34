-- A comment that comes above an entry, on a line of its own.
use Rattle.std.specs.Prelude.{◌≡◌, ℕ, ◌-◌, Bool, true, false, List, [], ◌∷◌, length, take, Option, Some, None, option_and_then, unwrap_or, nat_eq, if◌then◌else◌}
use Rattle.std.specs.List.{ends_with, list_all}
use Rattle.jsonc_tree.specs.Content.{Content, newline, whitespace, comment}
use Rattle.jsonc_tree.specs.Siblings.{first, siblings_before}
use Rattle.jsonc_tree.specs.Tree.{Node, content_at, parent_at, place_at}
use Rattle.jsonc_tree.specs.declared.node.CstNewlineKind.{CstNewlineKind}
use Rattle.jsonc_layout.specs.lines.Breadth.{newline_kind_at}
use Rattle.jsonc_layout.specs.lines.Kinds.{blank_at, is_array_or_object}
use Rattle.jsonc_layout.specs.lines.Lines.{indent_at}
use Rattle.jsonc_layout.specs.nodes.Kinds.{is_whitespace_at}
use Rattle.jsonc_layout.specs.nodes.Siblings.{line_before}
use Rattle.jsonc_edit.specs.commenting.Come.{LeavesCome}
use Rattle.jsonc_edit.specs.multiline.Lines.{lines_for}

-- nothing but whitespace stands before the node on its line
abbrev pub begins_own_line : List Node → ℕ → Bool
begins_own_line ns n = list_all (is_whitespace_at ns) (line_before ns n)

-- the indent of the node, where its line begins with it
abbrev pub own_indent : List Node → ℕ → List ℕ
own_indent ns n = unwrap_or (indent_at ns n) []

-- the indent that an entry of c has on a line of its own; the document's value has none
abbrev pub indent_in : List Node → ℕ → List ℕ
indent_in ns c = if is_array_or_object (content_at ns c) then (lines_for ns c).inner else []

-- the text without another at its end, if it ends with that
abbrev pub without_end : List ℕ → List ℕ → Option (List ℕ)
without_end text last = if ends_with nat_eq text last then Some (take (length text - length last) text) else None

-- before which node lines come, and what of the indent is still to be written before that
pub record Seam : Type 0 where
  pub node : ℕ
  pub indent : List ℕ

abbrev pub seam_by : ℕ → ℕ → List ℕ → Option (List ℕ) → Seam
seam_by n blank indent None = record { node = n; indent = indent }
seam_by n blank indent (Some rest) = record { node = blank; indent = rest }

-- before n, or before the whitespace directly before it, if the indent ends with that
abbrev pub seam_behind : List Node → ℕ → List ℕ → Option ℕ → Seam
seam_behind ns n indent None = record { node = n; indent = indent }
seam_behind ns n indent (Some m) = seam_by n m indent (option_and_then (without_end indent) (blank_at ns m))

abbrev pub seam_at : List Node → ℕ → List ℕ → Seam
seam_at ns n indent = seam_behind ns n indent (first (siblings_before ns n))

-- a comment, the end of its line, and an indent
abbrev pub own_line : CstNewlineKind → List ℕ → List ℕ → List Content
own_line kind text indent = comment text ∷ newline kind ∷ whitespace indent ∷ []

-- the end of a line and an indent before these
abbrev pub new_line : CstNewlineKind → List ℕ → List Content → List Content
new_line kind indent contents = newline kind ∷ whitespace indent ∷ contents

-- where something stands before the entry on its line, this goes on behind a new line, and so does the entry
abbrev pub ComesAtSeam : List Node → List Node → ℕ → List ℕ → Seam → Type 0
ComesAtSeam old new c text seam =
    let kind = newline_kind_at old c in LeavesCome old new c (place_at old seam.node) (new_line kind (indent_in old c) (own_line kind text seam.indent))

-- in the entry's place the comment has come, and the end of its line with the indent again
abbrev pub ComesAboveBy : Bool → List Node → List Node → ℕ → ℕ → List ℕ → Type 0
ComesAboveBy true old new c n text = LeavesCome old new c (place_at old n) (own_line (newline_kind_at old c) text (own_indent old n))
ComesAboveBy false old new c n text = ComesAtSeam old new c text (seam_at old n (indent_in old c))

-- above n the comment of this text has come
abbrev pub ComesAbove : List Node → List Node → ℕ → List ℕ → Type 0
ComesAbove old new n text = (c : ℕ) → parent_at old n ≡ Some c → ComesAboveBy (begins_own_line old n) old new c n text
