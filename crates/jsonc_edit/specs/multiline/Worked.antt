-- Worked rows: what arrays and objects print between their brackets once they are on several lines.
use Rattle.std.specs.Prelude.{ℕ, List, [], ◌∷◌, Some, None, codes}
use Rattle.jsonc_tree.specs.Content.{array, object, property, root, number, string, token, comment, whitespace}
use Rattle.jsonc_tree.specs.OrderedTree.{printed}
use Rattle.jsonc_tree.specs.Tree.{Node, children_at}
use Rattle.jsonc_tree.specs.declared.node.CstNewlineKind.TheVariants.{LineFeed, CarriageReturnLineFeed}
use Rattle.jsonc_edit.specs.Worked.{node}
use Rattle.jsonc_edit.specs.multiline.Slots.{row_in}
use Rattle.jsonc_edit.specs.multiline.Lines.{Lines, between, on_lines}

-- `[`, a space, 1, a space, a comma, a space, 2, a space, `]`: the array is node 0
abbrev pub spaced_array : List Node
spaced_array =
    node array (Some 0) [] ∷ node (token 0x5B) (Some 0) [] ∷ node (whitespace (codes " ")) (Some 0) [] ∷ node (number (codes "1")) (Some 0) []
    ∷ node (whitespace (codes " ")) (Some 0) [] ∷ node (token 0x2C) (Some 0) [] ∷ node (whitespace (codes " ")) (Some 0) []
    ∷ node (number (codes "2")) (Some 0) [] ∷ node (whitespace (codes " ")) (Some 0) [] ∷ node (token 0x5D) (Some 0) [] ∷ []

abbrev pub inside : List ℕ
inside = 2 ∷ 3 ∷ 4 ∷ 5 ∷ 6 ∷ 7 ∷ 8 ∷ []

-- `{"a":1, "b":[2]}`: the object is node 1, and its properties are nodes 3 and 9
abbrev pub object_nodes : List Node
object_nodes =
    node root None (1 ∷ []) ∷ node object (Some 0) (2 ∷ 3 ∷ 7 ∷ 8 ∷ 9 ∷ 16 ∷ []) ∷ node (token 0x7B) (Some 1) [] ∷ node property (Some 1) (4 ∷ 5 ∷ 6 ∷ [])
    ∷ node (string (codes "\"a\"")) (Some 3) [] ∷ node (token 0x3A) (Some 3) []
    ∷ node (number (codes "1")) (Some 3) [] ∷ node (token 0x2C) (Some 1) [] ∷ node (whitespace (codes " ")) (Some 1) []
    ∷ node property (Some 1) (10 ∷ 11 ∷ 12 ∷ []) ∷ node (string (codes "\"b\"")) (Some 9) [] ∷ node (token 0x3A) (Some 9) []
    ∷ node array (Some 9) (13 ∷ 14 ∷ 15 ∷ []) ∷ node (token 0x5B) (Some 12) [] ∷ node (number (codes "2")) (Some 12) [] ∷ node (token 0x5D) (Some 12) []
    ∷ node (token 0x7D) (Some 1) [] ∷ []

-- `[/*a*/ 1 /*b*/,2, ]`: the array is node 1
abbrev pub commented_array : List Node
commented_array =
    node root None (1 ∷ []) ∷ node array (Some 0) (2 ∷ 3 ∷ 4 ∷ 5 ∷ 6 ∷ 7 ∷ 8 ∷ 9 ∷ 10 ∷ 11 ∷ 12 ∷ []) ∷ node (token 0x5B) (Some 1) []
    ∷ node (comment (codes "/*a*/")) (Some 1) [] ∷ node (whitespace (codes " ")) (Some 1) [] ∷ node (number (codes "1")) (Some 1) []
    ∷ node (whitespace (codes " ")) (Some 1) [] ∷ node (comment (codes "/*b*/")) (Some 1) [] ∷ node (token 0x2C) (Some 1) []
    ∷ node (number (codes "2")) (Some 1) [] ∷ node (token 0x2C) (Some 1) [] ∷ node (whitespace (codes " ")) (Some 1) [] ∷ node (token 0x5D) (Some 1) []
    ∷ []

-- `[1`: its last bracket was taken out
abbrev pub open_array : List Node
open_array = node root None (1 ∷ []) ∷ node array (Some 0) (2 ∷ 3 ∷ []) ∷ node (token 0x5B) (Some 1) [] ∷ node (number (codes "1")) (Some 1) [] ∷ []

-- two spaces a level, in the document's value and one level below it
abbrev pub at_front : Lines
at_front = record { newline = LineFeed; inner = codes "  "; outer = [] }

abbrev pub one_level_in : Lines
one_level_in = record { newline = CarriageReturnLineFeed; inner = codes "    "; outer = codes "  " }

-- what the row of these children prints on several lines
abbrev pub text_on_lines : Lines → List Node → List ℕ → List ℕ
text_on_lines lines ns row = printed (row_in ns (on_lines lines ns row))

-- and that between the brackets of a container
abbrev pub text_inside : Lines → List Node → ℕ → List ℕ
text_inside lines ns c = text_on_lines lines ns (between (children_at ns c))
