-- A worked text, and two trees that print it.
use Rattle.std.specs.Prelude.{◌≡◌, ℕ, List, [], ◌∷◌, codes}
use Rattle.jsonc_text.specs.Options.{all_on}
use Rattle.jsonc_tree.specs.Content.{Content, root, object, array, property}
use Rattle.jsonc_tree.specs.declared.node.CstNewlineKind.TheVariants.{LineFeed}
use Rattle.jsonc_tree.specs.OrderedTree.{OrderedTree, none, more}
use Rattle.jsonc_sound.specs.Shape.{token_then, printed_text}
use Rattle.jsonc_sound.specs.Marks.{Mark, AreMarks, marks}

-- the text: behind a comma a line comment with a blank at its end
abbrev pub worked_text : List ℕ
worked_text = codes "{a:1, // x \n \"b\":[null]}"

-- its marks: the comment's is without the blank
abbrev pub worked_marks : List Mark
worked_marks = Mark.literal (codes "a") ∷ Mark.literal (codes "1") ∷ Mark.comment (codes "// x")
    ∷ Mark.literal (codes "\"b\"") ∷ Mark.literal (codes "null") ∷ []

-- a leaf, and then the row
abbrev pub leaf_then : Content → OrderedTree → OrderedTree
leaf_then content row = more content none row

-- the line's end, and what is behind it in the object
abbrev pub last_line : OrderedTree
last_line =
    leaf_then (Content.newline LineFeed) (leaf_then (Content.whitespace (codes " "))
    (more property (leaf_then (Content.string (codes "\"b\""))
    (token_then 0x3A (more array (token_then 0x5B (leaf_then Content.null (token_then 0x5D none))) none)))
    (token_then 0x7D none)))

-- the tree whose first line ends with these leaves
abbrev pub tree_with : (OrderedTree → OrderedTree) → OrderedTree
tree_with end = more root
    (more object (token_then 0x7B
    (more property (leaf_then (Content.word (codes "a")) (token_then 0x3A (leaf_then (Content.number (codes "1")) none)))
    (token_then 0x2C (leaf_then (Content.whitespace (codes " ")) (end last_line))))) none) none

-- the blank is the comment's, or a leaf of its own
abbrev pub worked_tree : OrderedTree
worked_tree = tree_with (leaf_then (Content.comment (codes "// x ")))

abbrev pub other_tree : OrderedTree
other_tree = tree_with (λ row. leaf_then (Content.comment (codes "// x")) (leaf_then (Content.whitespace (codes " ")) row))

-- the tree prints the text, and has its marks
abbrev pub IsWorked : OrderedTree → Type 0
IsWorked t = (printed_text t ≡ worked_text) × (marks t ≡ worked_marks)

abbrev pub WorkedMarks : Type 0
WorkedMarks = AreMarks all_on worked_text worked_marks × IsWorked worked_tree × IsWorked other_tree
