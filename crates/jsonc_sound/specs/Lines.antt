-- Line comments end with their lines: directly, or in an array or object perhaps behind whitespace. The blanks there
-- belong to the comment when the text is read again.
use Rattle.std.specs.Prelude.{◌≡◌, Bool, true, false, ◌&&◌, ◌==◌, ◌∷◌, IsTrue}
use Rattle.jsonc_tree.specs.Content.{Content, root, array, object, newline, comment, whitespace}
use Rattle.jsonc_tree.specs.OrderedTree.{OrderedTree, none, more}

-- a comment that begins with `//`
abbrev pub is_line_comment : Content → Bool
is_line_comment (comment (c ∷ d ∷ s)) = c == 0x2F && d == 0x2F
is_line_comment _ = false

-- a newline is first in the row; where nothing is, the row's own end serves if it may
abbrev pub ends_line : Bool → OrderedTree → Bool
ends_line at_end none = at_end
ends_line at_end (more (newline k) below after) = true
ends_line at_end (more _ below after) = false

-- each line comment of a row is directly followed by a newline of the row, or by the row's end if that serves; in the rows below it does not
abbrev pub LinesEnd : Bool → OrderedTree → Type 0
LinesEnd at_end none = Unit {0}
LinesEnd at_end (more content below after) = (IsTrue (is_line_comment content) → IsTrue (ends_line at_end after)) × LinesEnd false below × LinesEnd at_end after

-- in a document the end of the root's row serves
abbrev pub DocumentLinesEnd : OrderedTree → Type 0
DocumentLinesEnd tree = (row : OrderedTree) × (tree ≡ more root row none) × LinesEnd true row

-- below these a comment's newline may stand behind whitespace
abbrev pub is_loose : Content → Bool
is_loose array = true
is_loose object = true
is_loose _ = false

-- a newline is first in the row, in a loose one past whitespace leaves; where nothing is, the row's own end serves if it may
abbrev pub ends_loosely : Bool → Bool → OrderedTree → Bool
ends_loosely loose at_end none = at_end
ends_loosely loose at_end (more (newline k) below after) = true
ends_loosely loose at_end (more (whitespace s) below after) = loose && ends_loosely loose at_end after
ends_loosely loose at_end (more _ below after) = false

-- each line comment of a row is followed by such an end; in the rows below the row's own end does not serve
abbrev pub LinesEndLoosely : Bool → Bool → OrderedTree → Type 0
LinesEndLoosely loose at_end none = Unit {0}
LinesEndLoosely loose at_end (more content below after)
    = (IsTrue (is_line_comment content) → IsTrue (ends_loosely loose at_end after))
    × LinesEndLoosely (is_loose content) false below × LinesEndLoosely loose at_end after

-- in a document the root's row is not loose, and its end serves
abbrev pub DocumentLinesEndLoosely : OrderedTree → Type 0
DocumentLinesEndLoosely tree = (row : OrderedTree) × (tree ≡ more root row none) × LinesEndLoosely false true row
