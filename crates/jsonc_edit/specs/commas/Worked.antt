-- Worked documents: where a comma is wanted, and which one leaves.
use Rattle.std.specs.Prelude.{ℕ, List, [], ◌∷◌, Some, None, codes}
use Rattle.jsonc_tree.specs.Content.{array, object, property, root, number, string, token, newline, whitespace}
use Rattle.jsonc_tree.specs.Tree.{Node}
use Rattle.jsonc_tree.specs.declared.node.CstNewlineKind.TheVariants.{LineFeed}
use Rattle.jsonc_edit.specs.Worked.{node}

-- `[`, a line's end, `  1,`, a line's end, `  {"a": [2]}`, and then the children of the array that are told
abbrev pub array_that_ends : List ℕ → List Node
array_that_ends ends =
    node root None (1 ∷ []) ∷ node array (Some 0) (2 ∷ 3 ∷ 4 ∷ 5 ∷ 6 ∷ 7 ∷ 8 ∷ 9 ∷ ends) ∷ node (token 0x5B) (Some 1) [] ∷ node (newline LineFeed) (Some 1) []
    ∷ node (whitespace (codes "  ")) (Some 1) [] ∷ node (number (codes "1")) (Some 1) [] ∷ node (token 0x2C) (Some 1) [] ∷ node (newline LineFeed) (Some 1) []
    ∷ node (whitespace (codes "  ")) (Some 1) [] ∷ node object (Some 1) (10 ∷ 11 ∷ 19 ∷ []) ∷ node (token 0x7B) (Some 9) []
    ∷ node property (Some 9) (12 ∷ 13 ∷ 14 ∷ 15 ∷ []) ∷ node (string (codes "\"a\"")) (Some 11) [] ∷ node (token 0x3A) (Some 11) []
    ∷ node (whitespace (codes " ")) (Some 11) [] ∷ node array (Some 11) (16 ∷ 17 ∷ 18 ∷ []) ∷ node (token 0x5B) (Some 15) []
    ∷ node (number (codes "2")) (Some 15) [] ∷ node (token 0x5D) (Some 15) [] ∷ node (token 0x7D) (Some 9) [] ∷ node (newline LineFeed) (Some 1) []
    ∷ node (token 0x5D) (Some 1) [] ∷ node (token 0x2C) (Some 1) [] ∷ []

-- a line's end and `]`; and a comma before these
abbrev pub bare_array : List Node
bare_array = array_that_ends (20 ∷ 21 ∷ [])

abbrev pub comma_array : List Node
comma_array = array_that_ends (22 ∷ 20 ∷ 21 ∷ [])

-- a line's end and a comma in the place of `]`
abbrev pub open_array : List Node
open_array = array_that_ends (20 ∷ 22 ∷ [])

-- `{"a" []}`: the colon was taken out, so the array is no value of the property
abbrev pub colonless_object : List Node
colonless_object =
    node root None (1 ∷ []) ∷ node object (Some 0) (2 ∷ 3 ∷ 9 ∷ []) ∷ node (token 0x7B) (Some 1) [] ∷ node property (Some 1) (4 ∷ 5 ∷ 6 ∷ [])
    ∷ node (string (codes "\"a\"")) (Some 3) [] ∷ node (whitespace (codes " ")) (Some 3) [] ∷ node array (Some 3) (7 ∷ 8 ∷ []) ∷ node (token 0x5B) (Some 6) []
    ∷ node (token 0x5D) (Some 6) [] ∷ node (token 0x7D) (Some 1) [] ∷ []
