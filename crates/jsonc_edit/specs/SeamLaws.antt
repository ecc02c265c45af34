-- Where a node has been replaced, and where a comment has left: what has become of the leaves, and where spaces have come.
use Rattle.std.specs.Prelude.{◌≡◌, ◌⊎◌, ℕ, ◌++◌, Bool, true, false, ◌||◌, List, [], ◌∷◌, Some, length, IsTrue}
use Rattle.jsonc_text.specs.Options.{Options}
use Rattle.jsonc_tree.specs.Content.{Content, comment}
use Rattle.jsonc_tree.specs.OrderedTree.{OrderedTree, leaves, ordered_tree, Top}
use Rattle.jsonc_tree.specs.Tree.{Node, IsTree}
use Rattle.jsonc_layout.specs.nodes.Kinds.{is_whitespace, is_newline}
use Rattle.jsonc_sound.specs.Adjacent.{last_printed}
use Rattle.jsonc_sound.specs.Lines.{is_line_comment}
use Rattle.jsonc_sound.specs.MarkChanges.{AreBlanks}
use Rattle.jsonc_sound.specs.Marks.{comments_of, marks_of}
use Rattle.jsonc_sound.specs.SoundTrees.{SoundTree}
use Rattle.jsonc_sound.specs.Spaces.{first_printed, is_bare_leaf}
use Rattle.jsonc_edit.specs.Changes.{top_at}
use Rattle.jsonc_edit.specs.Comments.{comment_at, CommentTaken}
use Rattle.jsonc_edit.specs.Due.{begins_bare, ends_bare, seen_before, seen_behind}
use Rattle.jsonc_edit.specs.Paths.{IsAt}
use Rattle.jsonc_edit.specs.Replacing.{ReplacedBy}
use Rattle.jsonc_edit.specs.Seams.{PrintNothing, space_if, StandsBetween}
use Rattle.jsonc_edit.specs.SeamPlaces.{ReplacedWithSeams}

-- where a node at a path has been replaced, the value at that path has, and spaces have come at the seams alone
abbrev pub HasSeams : List Node → List Node → ℕ → ℕ → Top → Type 0
HasSeams old new n m now = IsTree old → ReplacedBy old new n m now → (path : List ℕ) → IsAt old path n
    → ReplacedWithSeams path (top_at old n) now (ordered_tree old 0) (ordered_tree new 0)

-- each of the leaves is whitespace
abbrev pub AreWhitespace : List Content → Type 0
AreWhitespace [] = Unit {0}
AreWhitespace (content ∷ rest) = IsTrue (is_whitespace content) × AreWhitespace rest

-- there are no leaves, or the last of them is neither whitespace nor a newline
abbrev pub EndInNoBlank : List Content → Type 0
EndInNoBlank ls = (ls ≡ []) ⊎ ((front : List Content) × (content : Content) × (ls ≡ front ++ content ∷ []) × (is_whitespace content || is_newline content) ≡ false)

-- What is removed before a comment, behind these leaves: before a block comment nothing; before a line comment the whitespace that stands there, and the newline
-- before that, where one does.
pub data BlanksRemoved (front : List Content) (is_line : Bool) : List Content → Type 0 where
  before_block : is_line ≡ false → BlanksRemoved front is_line []
  on_line : {blanks : List Content} → is_line ≡ true → AreWhitespace blanks → EndInNoBlank front → BlanksRemoved front is_line blanks
  with_newline : {blanks : List Content} (end : Content) → is_line ≡ true → IsTrue (is_newline end) → AreWhitespace blanks → BlanksRemoved front is_line (end ∷ blanks)

-- A comment has left, with blanks directly before it, and nothing else has changed but that where it stood a space has come, or none, directly before what is
-- printed next. In a sound document a space that has come parts two literals without quotes, and the blanks are those of such a comment.
pub record LosesWithSeam (old new : OrderedTree) : Type 0 where
  pub front : List Content
  pub blanks : List Content
  pub text : List ℕ
  pub quiet : List Content
  pub rest : List Content
  pub behind : Bool
  pub are_blanks : AreBlanks blanks
  pub silent : PrintNothing quiet
  pub before : leaves old ≡ front ++ ((blanks ++ comment text ∷ []) ++ (quiet ++ rest))
  pub after : leaves new ≡ front ++ (quiet ++ (space_if behind ++ rest))
  pub blanks_are : (o : Options) → SoundTree o old → BlanksRemoved front (is_line_comment (comment text)) blanks
  pub parts : (o : Options) → SoundTree o old → behind ≡ true → (is_bare_leaf (last_printed front) ≡ true) × (is_bare_leaf (first_printed (quiet ++ rest)) ≡ true)

-- how many comments stand before it
abbrev pub comments_before : {old new : OrderedTree} → LosesWithSeam old new → ℕ
comments_before loses = length (comments_of (marks_of loses.front))

-- so it has where a comment was taken out, and the comment of a number is the one before which so many stand
abbrev pub CommentHasSeam : List Node → List Node → ℕ → Type 0
CommentHasSeam old new n =
    CommentTaken old new n → (loses : LosesWithSeam (ordered_tree old 0) (ordered_tree new 0)) × ((number : ℕ) → comment_at old number ≡ Some n → comments_before loses ≡ number)

-- In a sound document, between these leaves: where a literal without quotes is said to end before n, or to begin behind it, one is printed there. So a space that
-- is due parts two of them.
abbrev pub TellsWhatIsPrinted : Options → List Node → ℕ → Type 0
TellsWhatIsPrinted o ns n =
    IsTree ns → SoundTree o (ordered_tree ns 0) → (front back : List Content) → StandsBetween ns n front back
    → (ends_bare ns (seen_before ns n) ≡ true → is_bare_leaf (last_printed front) ≡ true)
    × (begins_bare ns (seen_behind ns n) ≡ true → is_bare_leaf (first_printed back) ≡ true)
