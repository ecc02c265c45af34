-- Rows of trees in which ends of lines come, and whitespace beside them leaves.
use Rattle.std.specs.Prelude.{◌≡◌, ℕ, Bool, true, false, ◌||◌, List, IsTrue, if◌then◌else◌}
use Rattle.jsonc_tree.specs.Content.{Content, whitespace, newline}
use Rattle.jsonc_tree.specs.OrderedTree.{OrderedTree, none, more}
use Rattle.jsonc_tree.specs.declared.node.CstNewlineKind.{CstNewlineKind}
use Rattle.jsonc_layout.specs.nodes.Kinds.{is_comma, is_newline}
use Rattle.jsonc_edit.specs.Writing.{IsIndent}

-- the end of a line is first in the row
abbrev pub starts_line : OrderedTree → Bool
starts_line (more (newline k) below after) = true
starts_line row = false

-- one is in the row
abbrev pub has_newline : OrderedTree → Bool
has_newline none = false
has_newline (more content below after) = is_newline content || has_newline after

-- The second row is the first, but that ends of lines have come, each with an indent or none, and whitespace has left
-- where the end of a line stands now. All other nodes stay as they are, with what is below them.
pub data Reflows : OrderedTree → OrderedTree → Type 0 where
  ended : Reflows none none
  kept : {content : Content} {below x y : OrderedTree} → Reflows x y → Reflows (more content below x) (more content below y)
  gone : {s : List ℕ} {x y : OrderedTree} → IsTrue (starts_line y) → Reflows x y → Reflows (more (whitespace s) none x) y
  line : {k : CstNewlineKind} {s : List ℕ} {x y : OrderedTree} → IsIndent s → Reflows x y → Reflows x (more (newline k) none (more (whitespace s) none y))
  line_end : {k : CstNewlineKind} {x y : OrderedTree} → Reflows x y → Reflows x (more (newline k) none y)

-- a row that holds the end of a line stays; any other reflows, and holds one then
pub data SpreadsOut : OrderedTree → OrderedTree → Type 0 where
  stays : {row : OrderedTree} → IsTrue (has_newline row) → SpreadsOut row row
  reflows : {row new : OrderedTree} → has_newline row ≡ false → IsTrue (has_newline new) → Reflows row new → SpreadsOut row new

-- Where a row on several lines goes on: a line has to end here; its indent stands here, and then what it begins; more of that; or the indent of the last bracket.
pub data Spot : Type 0 where
  begins : Spot
  indent : Spot
  part : Spot
  closes : Spot

-- behind a comma a line has to end
abbrev pub behind : Content → Spot
behind content = if is_comma content then begins else part

-- One line ends before each part of the row, which goes on through its comma, and none else in it. Behind the last part, if anything stands in it, one more ends, and
-- behind that whitespace alone stands.
abbrev pub goes_on_lines : Spot → OrderedTree → Bool
goes_on_lines begins none = false
goes_on_lines begins (more (newline k) below after) = goes_on_lines indent after
goes_on_lines begins (more content below after) = false
goes_on_lines indent none = true
goes_on_lines indent (more (newline k) below after) = false
goes_on_lines indent (more (whitespace s) below after) = goes_on_lines indent after
goes_on_lines indent (more content below after) = goes_on_lines (behind content) after
goes_on_lines part none = false
goes_on_lines part (more (newline k) below after) = goes_on_lines closes after
goes_on_lines part (more content below after) = goes_on_lines (behind content) after
goes_on_lines closes none = true
goes_on_lines closes (more (whitespace s) below after) = goes_on_lines closes after
goes_on_lines closes (more content below after) = false

-- each part of the row, through its comma, is on a line of its own, and so is the last bracket behind it
abbrev pub is_on_lines : OrderedTree → Bool
is_on_lines row = goes_on_lines begins row
