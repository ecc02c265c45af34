-- Where a space has to be written: where two literals without quotes would meet.
use Rattle.std.specs.Prelude.{Bool, true, false, ◌&&◌, List, [], ◌∷◌, ◌++◌, Option, Some, None, if◌then◌else◌}
use Rattle.jsonc_text.specs.Text.{starts}
use Rattle.jsonc_tree.specs.Content.{Content}
use Rattle.jsonc_tree.specs.OrderedTree.{OrderedTree, none, more, leaves, followed_by}
use Rattle.jsonc_sound.specs.Adjacent.{first_char, last_printed}

-- a number, a name without quotes, `true`, `false` or `null`
abbrev pub is_bare : Content → Bool
is_bare (Content.number s) = true
is_bare (Content.word s) = true
is_bare (Content.boolean b) = true
is_bare Content.null = true
is_bare _ = false

abbrev pub is_bare_leaf : Option Content → Bool
is_bare_leaf None = false
is_bare_leaf (Some content) = is_bare content

-- the first of the leaves that prints something
abbrev pub first_printed : List Content → Option Content
first_printed [] = None
first_printed (content ∷ rest) = if starts (λ c. true) (first_char content) then Some content else first_printed rest

-- the last that prints something of these, and the first of those, are both such literals
abbrev pub meet : List Content → List Content → Bool
meet before behind = is_bare_leaf (last_printed before) && is_bare_leaf (first_printed behind)

-- a whitespace leaf of one space, and then the row
abbrev pub space_then : OrderedTree → OrderedTree
space_then row = more (Content.whitespace (0x20 ∷ [])) none row

-- the stretch with a space before it, where a literal without quotes would meet one that stands before it; and then with one behind it
abbrev pub spaced_before : List Content → OrderedTree → List Content → OrderedTree
spaced_before before stretch behind = if meet before (leaves stretch ++ behind) then space_then stretch else stretch

abbrev pub spaced_behind : OrderedTree → List Content → OrderedTree
spaced_behind stretch behind = if meet (leaves stretch) behind then followed_by stretch (space_then none) else stretch

abbrev pub spaced : List Content → OrderedTree → List Content → OrderedTree
spaced before stretch behind = spaced_behind (spaced_before before stretch behind) behind
