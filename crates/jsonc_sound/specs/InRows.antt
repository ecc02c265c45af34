-- Changes of one row, judged by that row alone: a space comes before an element, or a comment leaves.
use Rattle.std.specs.Prelude.{◌≡◌, ◌≢◌, ℕ, false, List, [], ◌++◌}
use Rattle.jsonc_text.specs.Options.{Options}
use Rattle.jsonc_tree.specs.Content.{Content, root}
use Rattle.jsonc_tree.specs.OrderedTree.{OrderedTree, none, more, leaves, followed_by, Replaced, Top}
use Rattle.jsonc_sound.specs.Lines.{is_loose, LinesEndLoosely}
use Rattle.jsonc_sound.specs.Sound.{IsValueBefore}
use Rattle.jsonc_sound.specs.TreeChanges.{IsElement, leaves_of, property_of, DocumentChanged}
use Rattle.jsonc_sound.specs.TriviaChanges.{AreTrivia, leaves_then, EndsInComment}
use Rattle.jsonc_sound.specs.SoundTrees.{SoundTree}
use Rattle.jsonc_sound.specs.Spaces.{meet, space_then}

-- the second row is the first, but that in it, or in a row further below, a space has come directly before an element, behind another node
pub data SpaceCome : OrderedTree → OrderedTree → Type 0 where
  before_element : {first content : Content} {below under after : OrderedTree} → IsElement content
      → SpaceCome (more first below (more content under after)) (more first below (space_then (more content under after)))
  later : {content : Content} {below x y : OrderedTree} → SpaceCome x y → SpaceCome (more content below x) (more content below y)
  deeper : {content : Content} {x y after : OrderedTree} → SpaceCome x y → SpaceCome (more content x after) (more content y after)

-- so it is of a document
pub data SpacePut : OrderedTree → OrderedTree → Type 0 where
  in_root : {row new : OrderedTree} → SpaceCome row new → SpacePut (more root row none) (more root new none)

-- with the space a sound document stays sound
abbrev pub KeptWithSpace : Options → OrderedTree → Type 0
KeptWithSpace o t = SoundTree o t → (u : OrderedTree) → SpacePut t u → SoundTree o u

-- where in a row trivia leaves that is one comment, or ends in a line comment, and in that row no two literals without
-- quotes meet that it held apart, the document stays sound
abbrev pub KeptWithoutCommentInRow : Options → OrderedTree → Type 0
KeptWithoutCommentInRow o t = SoundTree o t → (front back : OrderedTree) (gone : List Content) (u : OrderedTree)
    → Replaced (followed_by front (leaves_then gone back)) (followed_by front back) t u → AreTrivia gone
    → EndsInComment gone → meet (leaves front) (leaves back) ≡ false
    → SoundTree o u

-- a row with this node in it
abbrev pub row_around : OrderedTree → Top → OrderedTree → OrderedTree
row_around front top back = followed_by front (more top.content top.below back)

-- where a value of a row, with nodes on both sides, is replaced by a whole value, and in that row no two literals without
-- quotes meet beside it, the document stays sound
abbrev pub KeptByValueInRow : Options → OrderedTree → Type 0
KeptByValueInRow o t = SoundTree o t → (was now : Top) (path : List ℕ) (u : OrderedTree)
    → DocumentChanged was now path t u → IsValueBefore o now [] → LinesEndLoosely (is_loose now.content) false now.below
    → (front back : OrderedTree) → Replaced (row_around front was back) (row_around front now back) t u → front ≢ none → back ≢ none
    → meet (leaves front) (leaves_of now ++ leaves back) ≡ false → meet (leaves_of now) (leaves back) ≡ false
    → SoundTree o u

-- so it is in the root's row, wherever there
abbrev pub KeptByValueInRoot : Options → Top → Top → OrderedTree → OrderedTree → Type 0
KeptByValueInRoot o was now front back = SoundTree o (more root (row_around front was back) none) → (path : List ℕ)
    → DocumentChanged was now path (more root (row_around front was back) none) (more root (row_around front now back) none) → IsValueBefore o now []
    → LinesEndLoosely (is_loose now.content) false now.below
    → meet (leaves front) (leaves_of now ++ leaves back) ≡ false → meet (leaves_of now) (leaves back) ≡ false
    → SoundTree o (more root (row_around front now back) none)

-- a property whose row is this one and then the value
abbrev pub holding : OrderedTree → Top → Top
holding front top = property_of (row_around front top none)

-- where the value that ends the row of a property is replaced by a whole value, and no two literals without quotes meet
-- before it in the property, nor behind it in the object, the document stays sound
abbrev pub KeptByValueInProperty : Options → OrderedTree → Type 0
KeptByValueInProperty o t = SoundTree o t → (was now : Top) (path : List ℕ) (u : OrderedTree)
    → DocumentChanged was now path t u → IsValueBefore o now [] → LinesEndLoosely (is_loose now.content) false now.below
    → (front before behind : OrderedTree)
    → Replaced (row_around before (holding front was) behind) (row_around before (holding front now) behind) t u
    → front ≢ none → behind ≢ none
    → meet (leaves front) (leaves_of now ++ leaves behind) ≡ false → meet (leaves_of now) (leaves behind) ≡ false
    → SoundTree o u
