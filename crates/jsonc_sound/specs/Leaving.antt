-- What leaves a row with one of its elements, and what the row is then. A row here is one of trees, behind its first bracket; the root's has none.
use Rattle.std.specs.Prelude.{◌≡◌, ℕ, suc, ◌+◌, Bool, true, false, not, ◌&&◌, List, [], ◌∷◌, ◌++◌, IsTrue, if◌then◌else◌}
use Rattle.jsonc_tree.specs.Content.{Content}
use Rattle.jsonc_tree.specs.OrderedTree.{OrderedTree, none, more, leaves, followed_by}
use Rattle.jsonc_layout.specs.nodes.Kinds.{is_inline_trivia, is_element, is_newline, is_trivia}
use Rattle.jsonc_layout.specs.nodes.Kinds.{is_comma}
use Rattle.jsonc_sound.specs.Shape.{token_then}
use Rattle.jsonc_tree.specs.OrderedTree.{Top}
use Rattle.jsonc_sound.specs.TriviaChanges.{AreTrivia, leaves_then}
use Rattle.jsonc_sound.specs.MarkChanges.{AreBlanks}
use Rattle.jsonc_sound.specs.Spaces.{meet}

-- each of these leaves may stand beside a node on its line: whitespace or a comment
abbrev pub AreInlineTrivia : List Content → Type 0
AreInlineTrivia [] = Unit {0}
AreInlineTrivia (content ∷ rest) = IsTrue (is_inline_trivia content) × AreInlineTrivia rest

-- no more than the rest of one line: whitespace and comments, and behind them at most the newline that ends it
pub data IsRestOfLine : List Content → Type 0 where
  without_end : (line : List Content) → AreInlineTrivia line → IsRestOfLine line
  with_end : (line : List Content) (end : Content) → AreInlineTrivia line → IsTrue (is_newline end) → IsRestOfLine (line ++ end ∷ [])

-- What leaves behind an element with its comma: what stands between the two; and behind the comma nothing, or, where no line
-- ends between, all of the line's rest, which is whitespace and comments, with the newline that ends it.
pub data LeavesBehind : List Content → List Content → Type 0 where
  comma_alone : (between : List Content) → AreTrivia between → LeavesBehind between []
  comma_and_line : (between line : List Content) (end : Content) → AreInlineTrivia between → AreInlineTrivia line → IsTrue (is_newline end)
      → LeavesBehind between (line ++ end ∷ [])

-- the row is empty, or what is last in it is neither whitespace nor a comment
abbrev pub ends_apart : OrderedTree → Bool
ends_apart none = true
ends_apart (more content below none) = not (is_inline_trivia content)
ends_apart (more content below (more next under after)) = ends_apart (more next under after)

-- no comma is among these
abbrev pub has_no_comma : OrderedTree → Bool
has_no_comma none = true
has_no_comma (more content below after) = not (is_comma content) && has_no_comma after

-- past trivia a comma comes
abbrev pub comma_comes : OrderedTree → Bool
comma_comes none = false
comma_comes (more content below after) = if is_trivia content then comma_comes after else is_comma content

-- how many elements there are
abbrev pub element_count : OrderedTree → ℕ
element_count none = 0
element_count (more content below after) = if is_element content then suc (element_count after) else element_count after

-- the element with leaves directly before and behind it, and then the row
abbrev pub among : List Content → Top → List Content → OrderedTree → OrderedTree
among before top behind row = leaves_then before (more top.content top.below (leaves_then behind row))

-- The second row is the first without its element of this number, `top`. With it go whitespace and comments directly
-- before it, and one comma: the one behind it with what stands between, or where none comes there, the nearest one before
-- it, if there is one. Behind the comma that comes there goes nothing more, or the whole rest of its line (`LeavesBehind`);
-- behind the element where none comes, no more than the rest of the line. And no two literals without quotes meet where
-- these have left.
pub data ElementRemoved (top : Top) : ℕ → OrderedTree → OrderedTree → Type 0 where
  with_comma_behind : (front back : OrderedTree) (before between line : List Content) → IsTrue (ends_apart front)
      → AreInlineTrivia before → LeavesBehind between line
      → meet (leaves front) (leaves back) ≡ false
      → ElementRemoved top (element_count front)
      (followed_by front (among before top between (token_then 0x2C (leaves_then line back))))
      (followed_by front back)
  with_comma_before : (front mid back : OrderedTree) (before line : List Content)
      → IsTrue (ends_apart (token_then 0x2C mid)) → IsTrue (has_no_comma mid) → AreInlineTrivia before → IsRestOfLine line
      → IsTrue (not (comma_comes back))
      → meet (leaves front) (leaves (followed_by mid back)) ≡ false → meet (leaves mid) (leaves back) ≡ false
      → ElementRemoved top (element_count front + element_count mid)
      (followed_by front (token_then 0x2C (followed_by mid (among before top line back))))
      (followed_by front (followed_by mid back))
  with_no_comma : (front back : OrderedTree) (before line : List Content) → IsTrue (ends_apart front)
      → IsTrue (has_no_comma front) → AreInlineTrivia before → IsRestOfLine line → IsTrue (not (comma_comes back))
      → meet (leaves front) (leaves back) ≡ false
      → ElementRemoved top (element_count front) (followed_by front (among before top line back)) (followed_by front back)

-- a row that is left with nothing but blanks before its last bracket loses them; any other stays
pub data ClosesUp : OrderedTree → OrderedTree → Type 0 where
  stays : {row : OrderedTree} → ClosesUp row row
  closes_up : (blanks : List Content) {c : ℕ} → AreBlanks blanks → ClosesUp (leaves_then blanks (token_then c none)) (token_then c none)

-- the second row of a root is the first without its value; with it go whitespace and comments directly before it, and no
-- more than the rest of the line behind it
pub data ValueRemoved (top : Top) : OrderedTree → OrderedTree → Type 0 where
  value_leaves : (front back : OrderedTree) (before line : List Content) → IsTrue (ends_apart front) → AreInlineTrivia before → IsRestOfLine line
      → ValueRemoved top (followed_by front (among before top line back)) (followed_by front back)

-- a root's row of nothing but blanks becomes empty; any other stays
pub data Empties : OrderedTree → OrderedTree → Type 0 where
  stays : {row : OrderedTree} → Empties row row
  empties : (blanks : List Content) → AreBlanks blanks → Empties (leaves_then blanks none) none
