-- What a property holds: its name, and behind a colon behind that its value.
use Rattle.std.specs.Prelude.{ℕ, Bool, true, false, List, [], ◌∷◌, drop, not, Option, None, if◌then◌else◌}
use Rattle.std.specs.List.{find, list_any}
use Rattle.jsonc_tree.specs.Content.{Content, root, property, string, word}
use Rattle.jsonc_tree.specs.Tree.{Node, content_at, children_at}
use Rattle.jsonc_layout.specs.nodes.Kinds.{is_element_at, is_colon_at}

-- the first element of a container from a place on
abbrev pub element_from : List Node → ℕ → ℕ → Option ℕ
element_from ns n place = find (is_element_at ns) (drop place (children_at ns n))

-- a leaf that names a property: a string or a word
abbrev pub is_name : Content → Bool
is_name (string s) = true
is_name (word s) = true
is_name _ = false

abbrev pub is_name_at : List Node → ℕ → Bool
is_name_at ns n = is_name (content_at ns n)

-- the name of a property: the first string or word among its children
abbrev pub name_at : List Node → ℕ → Option ℕ
name_at ns n = find (is_name_at ns) (children_at ns n)

-- what stands in a row behind the first node that passes a test: nothing where none does
abbrev pub behind_first : (ℕ → Bool) → List ℕ → List ℕ
behind_first test [] = []
behind_first test (n ∷ rest) = if test n then rest else behind_first test rest

-- the children of a property behind its name, and those behind the first colon there
abbrev pub behind_name : List Node → ℕ → List ℕ
behind_name ns n = behind_first (is_name_at ns) (children_at ns n)

abbrev pub behind_colon : List Node → ℕ → List ℕ
behind_colon ns n = behind_first (is_colon_at ns) (behind_name ns n)

-- a property has no name, or no colon stands behind it
abbrev pub lacks_name_at : List Node → ℕ → Bool
lacks_name_at ns n = not (list_any (is_colon_at ns) (behind_name ns n))

-- the value of a root or a property by what the node is, and of no other node
abbrev pub value_by : Content → List Node → ℕ → Option ℕ
value_by root ns n = element_from ns n 0
value_by property ns n = find (is_element_at ns) (behind_colon ns n)
value_by _ ns n = None

abbrev pub value_at : List Node → ℕ → Option ℕ
value_at ns n = value_by (content_at ns n) ns n
