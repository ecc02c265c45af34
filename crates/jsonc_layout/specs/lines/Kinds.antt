-- Kinds of nodes that a layout is told from.
use Rattle.std.specs.Prelude.{Bool, true, false, ℕ, List, Option, Some, None}
use Rattle.jsonc_tree.specs.Content.{Content, array, object, whitespace}
use Rattle.jsonc_tree.specs.Tree.{Node, content_at}

-- the text of whitespace
abbrev pub blank_of : Content → Option (List ℕ)
blank_of (whitespace s) = Some s
blank_of _ = None

-- the same of a node by its number
abbrev pub blank_at : List Node → ℕ → Option (List ℕ)
blank_at ns n = blank_of (content_at ns n)

-- an array or an object
abbrev pub is_array_or_object : Content → Bool
is_array_or_object array = true
is_array_or_object object = true
is_array_or_object _ = false
