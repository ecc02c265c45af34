-- A worked document, `{a:[1,2]}`, by the numbers of its nodes.
use Rattle.std.specs.Prelude.{ℕ, List, [], ◌∷◌, ◌++◌, Option, Some, None, codes}
use Rattle.jsonc_tree.specs.Content.{Content, root, object, array, property, word, number, token}
use Rattle.jsonc_tree.specs.Tree.{Node}

-- a node of this content under a parent, with these children
abbrev pub node : Content → Option ℕ → List ℕ → Node
node content parent children = record { content = content; parent = parent; children = children }

-- the array `[1,2]`, which is node 6, and its leaves
abbrev pub array_nodes : List Node
array_nodes =
    node array (Some 3) (7 ∷ 8 ∷ 9 ∷ 10 ∷ 11 ∷ []) ∷ node (token 0x5B) (Some 6) []
    ∷ node (number (codes "1")) (Some 6) [] ∷ node (token 0x2C) (Some 6) [] ∷ node (number (codes "2")) (Some 6) []
    ∷ node (token 0x5D) (Some 6) [] ∷ []

-- the whole
abbrev pub worked_nodes : List Node
worked_nodes =
    node root None (1 ∷ []) ∷ node object (Some 0) (2 ∷ 3 ∷ 12 ∷ []) ∷ node (token 0x7B) (Some 1) []
    ∷ node property (Some 1) (4 ∷ 5 ∷ 6 ∷ []) ∷ node (word (codes "a")) (Some 3) [] ∷ node (token 0x3A) (Some 3) []
    ∷ (array_nodes ++ node (token 0x7D) (Some 1) [] ∷ [])
