-- What leaves a row with one of its elements, and where spaces come in its place.
use Rattle.std.specs.Prelude.{◌≡◌, ◌⊎◌, ℕ, ◌+◌, Bool, true, false, not, ◌&&◌, ◌||◌, List, [], ◌∷◌, ◌++◌, IsTrue}
use Rattle.jsonc_tree.specs.Content.{Content}
use Rattle.jsonc_tree.specs.OrderedTree.{OrderedTree, none, more, leaves, followed_by, Top}
use Rattle.jsonc_layout.specs.nodes.Kinds.{is_comment, is_inline_trivia, is_newline, is_whitespace}
use Rattle.jsonc_sound.specs.Shape.{token_then}
use Rattle.jsonc_sound.specs.Leaving.{AreInlineTrivia, ClosesUp, IsRestOfLine, LeavesBehind, among, comma_comes, element_count, ends_apart, has_no_comma}
use Rattle.jsonc_sound.specs.Rows.{RowKind, container_of}
use Rattle.jsonc_sound.specs.Adjacent.{last_printed}
use Rattle.jsonc_sound.specs.Spaces.{first_printed, is_bare_leaf, space_then}
use Rattle.jsonc_sound.specs.TreeChanges.{IsElement}
use Rattle.jsonc_sound.specs.TriviaChanges.{leaves_then}
use Rattle.jsonc_edit.specs.SeamPlaces.{DocumentHolds}
use Rattle.jsonc_edit.specs.Seams.{PrintNothing}

-- The second row is the first, but that a space has come directly before what is printed first of it, or none has. One has come where that is a literal without
-- quotes, and so is what these leaves, ahead of it, print last.
pub data SpaceFirst (ahead : List Content) : OrderedTree → OrderedTree → Type 0 where
  none_first : {row : OrderedTree} → SpaceFirst ahead row row
  space_first : (quiet rest : OrderedTree) → PrintNothing (leaves quiet) → is_bare_leaf (last_printed ahead) ≡ true → is_bare_leaf (first_printed (leaves rest)) ≡ true
      → SpaceFirst ahead (followed_by quiet rest) (followed_by quiet (space_then rest))

-- past whitespace and comments a newline is first in the row
abbrev pub line_comes : OrderedTree → Bool
line_comes none = false
line_comes (more content below after) = is_newline content || (is_inline_trivia content && line_comes after)

-- past whitespace a comment is
abbrev pub comment_comes : OrderedTree → Bool
comment_comes none = false
comment_comes (more content below after) = is_comment content || (is_whitespace content && comment_comes after)

-- the last of the leaves is a newline
abbrev pub EndsLine : List Content → Type 0
EndsLine line = (front : List Content) × (end : Content) × (line ≡ front ++ end ∷ []) × IsTrue (is_newline end)

-- where the comma behind the element is on its line and is removed alone, no line ends behind that
abbrev pub NoLineLeft : (between line : List Content) → OrderedTree → Type 0
NoLineLeft between line back = AreInlineTrivia between → line ≡ [] → line_comes back ≡ false

-- where what is removed behind the element ends no line, no comment comes behind that
abbrev pub NoCommentLeft : List Content → OrderedTree → Type 0
NoCommentLeft line back = EndsLine line ⊎ (comment_comes back ≡ false)

-- The second row is the first without its element of this number, `top`, and what goes with it (`ElementLeaves`), but that where the comma before it stood a
-- space has come, or none, and so where the element stood. The comma is the one behind the element, or where none comes there the nearest before it, if one is.
-- Neither whitespace nor a comment stays directly before the place of the element.
pub data RemovedWithSeams (top : Top) : ℕ → OrderedTree → OrderedTree → Type 0 where
  comma_behind : (front back given : OrderedTree) (before between line : List Content) → IsTrue (ends_apart front) → AreInlineTrivia before → LeavesBehind between line → NoLineLeft between line back
      → SpaceFirst (leaves front) back given
      → RemovedWithSeams top (element_count front) (followed_by front (among before top between (token_then 0x2C (leaves_then line back)))) (followed_by front given)
  comma_before : (front mid back given_mid given : OrderedTree) (before line : List Content) → IsTrue (ends_apart (token_then 0x2C mid)) → AreInlineTrivia before → IsRestOfLine line → NoCommentLeft line back → IsTrue (has_no_comma mid)
      → IsTrue (not (comma_comes back)) → SpaceFirst (leaves front) mid given_mid
      → SpaceFirst (leaves front ++ leaves given_mid) back given
      → RemovedWithSeams top (element_count front + element_count mid) (followed_by front (token_then 0x2C (followed_by mid (among before top line back))))
      (followed_by front (followed_by given_mid given))
  no_comma : (front back given : OrderedTree) (before line : List Content) → IsTrue (ends_apart front) → AreInlineTrivia before → IsRestOfLine line → NoCommentLeft line back → IsTrue (has_no_comma front)
      → IsTrue (not (comma_comes back)) → SpaceFirst (leaves front) back given
      → RemovedWithSeams top (element_count front) (followed_by front (among before top line back)) (followed_by front given)

-- The entry of this number has left the container at the path, which has closed up if it may, with what goes with it; and nothing else has changed but that
-- spaces have come where the comma and where the entry stood.
pub record EntryRemovedWithSeams (path : List ℕ) (i : ℕ) (top : Top) (t u : OrderedTree) : Type 0 where
  pub kind : RowKind
  pub row : OrderedTree
  pub left : OrderedTree
  pub new : OrderedTree
  pub front : List Content
  pub back : List Content
  pub element : IsElement top.content
  pub held : DocumentHolds (container_of kind row) path t front back
  pub holds : DocumentHolds (container_of kind new) path u front back
  pub leaving : RemovedWithSeams top i row left
  pub closes : ClosesUp left new
