-- The change of trivia in an ordered tree: in one row a stretch of leaves is replaced by another, and either may be empty.
use Rattle.std.specs.Prelude.{◌≡◌, ◌≢◌, ℕ, List, [], ◌∷◌, ◌++◌, IsTrue}
use Rattle.jsonc_text.specs.Options.{Options}
use Rattle.jsonc_tree.specs.Content.{Content, root, comment}
use Rattle.jsonc_tree.specs.OrderedTree.{OrderedTree, none, more, followed_by}
use Rattle.jsonc_layout.specs.nodes.Kinds.{is_trivia}
use Rattle.jsonc_sound.specs.Lines.{is_line_comment}
use Rattle.jsonc_sound.specs.Shape.{IsTrivia}

-- each of these leaves is blanks, a line's end or a comment
abbrev pub AreTrivia : List Content → Type 0
AreTrivia [] = Unit {0}
AreTrivia (content ∷ rest) = IsTrue (is_trivia content) × AreTrivia rest

-- each is one that o allows
abbrev pub AreTriviaOf : Options → List Content → Type 0
AreTriviaOf o [] = Unit {0}
AreTriviaOf o (content ∷ rest) = IsTrivia o content × AreTriviaOf o rest

-- leaves of these contents, and then the row
abbrev pub leaves_then : List Content → OrderedTree → OrderedTree
leaves_then [] row = row
leaves_then (content ∷ rest) row = more content none (leaves_then rest row)

-- the second row is the first, but that in it, or in a row further below, these leaves have been replaced by those; where
-- there were none, those have come between two nodes
pub data LeavesChanged (was now : List Content) : OrderedTree → OrderedTree → Type 0 where
  given_way : (back : OrderedTree) → was ≢ [] → LeavesChanged was now (leaves_then was back) (leaves_then now back)
  come : {first : Content} {below : OrderedTree} (last : Content) (under back : OrderedTree) → was ≡ []
      → LeavesChanged was now (more first below (more last under back)) (more first below (leaves_then now (more last under back)))
  later : {content : Content} {below x y : OrderedTree} → LeavesChanged was now x y → LeavesChanged was now (more content below x) (more content below y)
  deeper : {content : Content} {x y after : OrderedTree} → LeavesChanged was now x y → LeavesChanged was now (more content x after) (more content y after)

-- the second document is the first, but that in the root's row, wherever, or in a row further below these leaves have been replaced by those
pub data StretchChanged (was now : List Content) : OrderedTree → OrderedTree → Type 0 where
  in_root : (front back : OrderedTree)
      → StretchChanged was now (more root (followed_by front (leaves_then was back)) none) (more root (followed_by front (leaves_then now back)) none)
  inside : {row new : OrderedTree} → LeavesChanged was now row new → StretchChanged was now (more root row none) (more root new none)

-- these leaves are one comment, or the last of them is a line comment
pub data EndsInComment : List Content → Type 0 where
  one_comment : {s : List ℕ} → EndsInComment (comment s ∷ [])
  line_comment : (front : List Content) (content : Content) → IsTrue (is_line_comment content) → EndsInComment (front ++ content ∷ [])
