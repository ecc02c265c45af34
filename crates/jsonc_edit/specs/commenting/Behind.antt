-- A comment that comes behind an entry, on its line.
use Rattle.std.specs.Prelude.{◌≡◌, ◌+◌, ◌==◌, ℕ, Bool, true, List, [], ◌∷◌, Option, Some, None, if◌then◌else◌}
use Rattle.jsonc_tree.specs.Content.{Content, comment}
use Rattle.jsonc_tree.specs.Siblings.{first, siblings_after}
use Rattle.jsonc_tree.specs.Tree.{Node, parent_at, place_at, is_newline_at}
use Rattle.jsonc_layout.specs.lines.Siblings.{if_comma}
use Rattle.jsonc_layout.specs.nodes.Comments.{after_inline_trivia_at}
use Rattle.jsonc_layout.specs.nodes.Kinds.{is_whitespace_at}
use Rattle.jsonc_sound.specs.Lines.{is_line_comment}
use Rattle.jsonc_edit.specs.Put.{a_space}
use Rattle.jsonc_edit.specs.commenting.Come.{LeavesCome}
use Rattle.jsonc_edit.specs.remove.Comments.{or_itself}

-- the comma behind an entry on its line, with nothing but whitespace and comments between; or the entry, where none is
abbrev pub end_of_entry : List Node → ℕ → ℕ
end_of_entry ns n = or_itself n (if_comma ns (after_inline_trivia_at ns n))

-- the last of the whitespace leaves that a row begins with, or the node before it
abbrev pub last_blank_in : List Node → ℕ → List ℕ → ℕ
last_blank_in ns n [] = n
last_blank_in ns n (m ∷ rest) = if is_whitespace_at ns m then last_blank_in ns m rest else n

abbrev pub last_blank : List Node → ℕ → ℕ
last_blank ns n = last_blank_in ns n (siblings_after ns n)

-- the node directly behind which a comment comes that is to stand behind n: a line comment stands last on its line
abbrev pub comment_follows : List Node → ℕ → List ℕ → ℕ
comment_follows ns n text = if is_line_comment (comment text) then last_blank ns (end_of_entry ns n) else end_of_entry ns n

-- a line ends there: its end stands there, or nothing does in the root
abbrev pub ends_line_at : List Node → Option ℕ → Option ℕ → Bool
ends_line_at ns container (Some m) = is_newline_at ns m
ends_line_at ns (Some c) None = c == 0
ends_line_at ns None None = true

-- a line comment may come behind n: nothing but whitespace stands behind it, or its comma, on its line
abbrev pub may_end_line : List Node → ℕ → Bool
may_end_line ns n = ends_line_at ns (parent_at ns n) (first (siblings_after ns (last_blank ns (end_of_entry ns n))))

-- a space and a comment
abbrev pub spaced : List ℕ → List Content
spaced text = a_space ∷ comment text ∷ []

-- behind n these have come
abbrev pub ComesBehind : List Node → List Node → ℕ → List ℕ → Type 0
ComesBehind old new n text = (c : ℕ) → parent_at old n ≡ Some c → LeavesCome old new c (place_at old (comment_follows old n text) + 1) (spaced text)
