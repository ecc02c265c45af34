-- What leaves with an element, by the numbers of nodes.
use Rattle.std.specs.Prelude.{ℕ, Bool, true, false, not, ◌&&◌, ◌||◌, ◌==◌, List, [], ◌∷◌, Option, Some, None, if◌then◌else◌}
use Rattle.std.specs.List.{find}
use Rattle.jsonc_tree.specs.Tree.{Node}
use Rattle.jsonc_tree.specs.Siblings.{siblings_after, siblings_before}
use Rattle.jsonc_layout.specs.nodes.Kinds.{is_inline_trivia_at, is_blank_at, is_comma_at, is_newline_at, is_trivia_at, is_whitespace_at}
use Rattle.jsonc_layout.specs.nodes.Comments.{after_inline_trivia_at}
use Rattle.jsonc_layout.specs.lines.Siblings.{trailing_comma_at}

-- past these whitespace leaves and comments, nearest first: the farthest of them, or n
abbrev pub outermost : List Node → ℕ → List ℕ → ℕ
outermost ns n [] = n
outermost ns n (m ∷ rest) = if is_inline_trivia_at ns m then outermost ns m rest else n

-- the first that leaves: the farthest of the whitespace and comments directly before n, or n
abbrev pub first_gone : List Node → ℕ → ℕ
first_gone ns n = outermost ns n (siblings_before ns n)

-- no trivia is first in the row
abbrev pub begins_other : List Node → List ℕ → Bool
begins_other ns [] = false
begins_other ns (m ∷ rest) = not (is_trivia_at ns m)

-- m trails its line, with this behind it: it is whitespace or a comment, but no whitespace that something else follows
abbrev pub trails : List Node → ℕ → List ℕ → Bool
trails ns m rest = is_inline_trivia_at ns m && not (is_whitespace_at ns m && begins_other ns rest)

-- where the line of n ends in the row behind it: at its newline; without one at the last of its whitespace and
-- comments, but for whitespace that something else follows
abbrev pub line_end : List Node → ℕ → List ℕ → ℕ
line_end ns n [] = n
line_end ns n (m ∷ rest) = if is_newline_at ns m then m else (if trails ns m rest then line_end ns m rest else n)

abbrev pub line_end_at : List Node → ℕ → ℕ
line_end_at ns n = line_end ns n (siblings_after ns n)

-- past whitespace and comments behind n a line ends
abbrev pub newline_there : List Node → Option ℕ → Bool
newline_there ns None = false
newline_there ns (Some m) = is_newline_at ns m

abbrev pub ends_line_at : List Node → ℕ → Bool
ends_line_at ns n = newline_there ns (after_inline_trivia_at ns n)

-- the nearest comma before n
abbrev pub comma_before : List Node → ℕ → Option ℕ
comma_before ns n = find (is_comma_at ns) (siblings_before ns n)

-- the last that leaves: the trailing comma of n, with the rest of its line if nothing else stands on that and n's line has
-- not ended before; or without that comma the end of n's line
abbrev pub last_past : List Node → ℕ → Option ℕ → ℕ
last_past ns n None = line_end_at ns n
last_past ns n (Some k) = if ends_line_at ns n || not (ends_line_at ns k) then k else line_end_at ns k

abbrev pub last_gone : List Node → ℕ → ℕ
last_gone ns n = last_past ns n (trailing_comma_at ns n)

-- the comma that leaves from before n, where none stands behind it
abbrev pub comma_unless : Option ℕ → Option ℕ → Option ℕ
comma_unless (Some k) found = None
comma_unless None found = found

abbrev pub comma_gone : List Node → ℕ → Option ℕ
comma_gone ns n = comma_unless (trailing_comma_at ns n) (comma_before ns n)

-- past blanks the row comes to this node, which may be a blank itself
abbrev pub comes_to : List Node → Option ℕ → List ℕ → Bool
comes_to ns None [] = true
comes_to ns (Some last) [] = false
comes_to ns None (m ∷ rest) = is_blank_at ns m && comes_to ns None rest
comes_to ns (Some last) (m ∷ rest) = m == last || (is_blank_at ns m && comes_to ns (Some last) rest)
