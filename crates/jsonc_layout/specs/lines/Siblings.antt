-- The comma after a node.
use Rattle.std.specs.Prelude.{ℕ, Bool, not, List, Option, Some, None, if◌then◌else◌}
use Rattle.std.specs.List.{find}
use Rattle.jsonc_tree.specs.Tree.{Node, content_at}
use Rattle.jsonc_layout.specs.nodes.Kinds.{is_trivia_at, is_comma}
use Rattle.jsonc_layout.specs.nodes.Siblings.{siblings_after}

abbrev pub is_no_trivia_at : List Node → ℕ → Bool
is_no_trivia_at ns m = not (is_trivia_at ns m)

-- the nearest sibling after the node that is no trivia
abbrev pub after_trivia_at : List Node → ℕ → Option ℕ
after_trivia_at ns n = find (is_no_trivia_at ns) (siblings_after ns n)

-- the node, if there is one and it is a comma
abbrev pub if_comma : List Node → Option ℕ → Option ℕ
if_comma ns None = None
if_comma ns (Some m) = if is_comma (content_at ns m) then Some m else None

-- the comma after the node: nothing but trivia stands between
abbrev pub trailing_comma_at : List Node → ℕ → Option ℕ
trailing_comma_at ns n = if_comma ns (after_trivia_at ns n)
