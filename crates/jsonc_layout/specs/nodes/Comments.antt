-- The comments beside a node on its line.
use Rattle.std.specs.Prelude.{ℕ, Bool, true, List, [], filter, not, Option, None, Some, if◌then◌else◌}
use Rattle.std.specs.List.{find, take_while}
use Rattle.jsonc_tree.specs.Tree.{Node}
use Rattle.jsonc_layout.specs.nodes.Kinds.{is_inline_trivia_at, is_comment_at, is_newline_at}
use Rattle.jsonc_layout.specs.nodes.Siblings.{siblings_after, siblings_before}

-- the comments among the whitespace and comments that a row begins with
abbrev pub inline_comments : List Node → List ℕ → List ℕ
inline_comments ns row = filter (is_comment_at ns) (take_while (is_inline_trivia_at ns) row)

abbrev pub is_not_inline_trivia_at : List Node → ℕ → Bool
is_not_inline_trivia_at ns m = not (is_inline_trivia_at ns m)

-- the first of a row that is neither whitespace nor a comment
abbrev pub first_not_inline_trivia : List Node → List ℕ → Option ℕ
first_not_inline_trivia ns row = find (is_not_inline_trivia_at ns) row

abbrev pub is_newline_or_end : List Node → Option ℕ → Bool
is_newline_or_end ns None = true
is_newline_or_end ns (Some m) = is_newline_at ns m

-- nothing but whitespace and comments stands in the row before its first newline, or its end
abbrev pub ends_line : List Node → List ℕ → Bool
ends_line ns row = is_newline_or_end ns (first_not_inline_trivia ns row)

-- the nearest sibling after a node that is neither whitespace nor a comment
abbrev pub after_inline_trivia_at : List Node → ℕ → Option ℕ
after_inline_trivia_at ns n = first_not_inline_trivia ns (siblings_after ns n)

-- the comments directly before a node on its line, nearest first
abbrev pub leading_comments : List Node → ℕ → List ℕ
leading_comments ns n = inline_comments ns (siblings_before ns n)

-- the comments directly after a node on its line, nearest first
abbrev pub comments_after : List Node → ℕ → List ℕ
comments_after ns n = inline_comments ns (siblings_after ns n)

-- the comments after a node on its line, where nothing else stands there
abbrev pub trailing_comments : List Node → ℕ → List ℕ
trailing_comments ns n = if ends_line ns (siblings_after ns n) then comments_after ns n else []
