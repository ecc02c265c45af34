-- An element comes into the row of an array or object. A row here is one of trees, between the brackets.
use Rattle.std.specs.Prelude.{◌≡◌, ◌≢◌, ℕ, Bool, true, false, not, List, [], ◌∷◌, IsTrue}
use Rattle.jsonc_text.specs.Options.{Options}
use Rattle.jsonc_tree.specs.Content.{Content, newline, whitespace}
use Rattle.jsonc_tree.specs.OrderedTree.{OrderedTree, Top, none, more, followed_by}
use Rattle.jsonc_tree.specs.declared.node.CstNewlineKind.{CstNewlineKind}
use Rattle.jsonc_sound.specs.Shape.{token_then}
use Rattle.jsonc_sound.specs.InRows.{row_around}
use Rattle.jsonc_sound.specs.Leaving.{AreInlineTrivia, comma_comes, element_count}
use Rattle.jsonc_sound.specs.MarkChanges.{AreBlanks}
use Rattle.jsonc_sound.specs.Rows.{Last, nothing_yet, an_element, a_comma, last_behind}
use Rattle.jsonc_sound.specs.TreeChanges.{IsElement}
use Rattle.jsonc_sound.specs.TriviaChanges.{leaves_then}
use Rattle.jsonc_edit.specs.SeamRemovals.{line_comes}
use Rattle.jsonc_edit.specs.Writing.{IsIndent}
use Rattle.jsonc_edit.specs.multiline.Reflows.{has_newline}

-- the second row is the first, or blanks have left it that stood directly behind the first line's end in it, before which stand blanks alone
pub data FirstLinesLeave : OrderedTree → OrderedTree → Type 0 where
  none_first : {row : OrderedTree} → FirstLinesLeave row row
  leave_first : (spaces gone : List Content) (k : CstNewlineKind) (row : OrderedTree) → AreBlanks spaces → AreBlanks gone
      → FirstLinesLeave (leaves_then spaces (more (newline k) none (leaves_then gone row))) (leaves_then spaces (more (newline k) none row))

-- or that stood directly before the last line's end, behind which stand blanks alone
pub data LastLinesLeave : OrderedTree → OrderedTree → Type 0 where
  none_last : {row : OrderedTree} → LastLinesLeave row row
  leave_last : (front : OrderedTree) (gone spaces : List Content) (k : CstNewlineKind) → AreBlanks gone → AreBlanks spaces
      → LastLinesLeave (followed_by front (leaves_then gone (more (newline k) none (leaves_then spaces none))))
      (followed_by front (more (newline k) none (leaves_then spaces none)))

-- blank lines directly inside the brackets leave so
pub record BlankLinesLeave (row kept : OrderedTree) : Type 0 where
  pub shorter : OrderedTree
  pub last : LastLinesLeave row shorter
  pub first : FirstLinesLeave shorter kept

-- what is written between two nodes: nothing, a space, or the end of a line and the next one's indent; this where a line has to end
pub data Gap : Bool → List Content → Type 0 where
  nothing : Gap false []
  a_space : Gap false (whitespace (0x20 ∷ []) ∷ [])
  a_line : {must : Bool} {k : CstNewlineKind} {s : List ℕ} → IsIndent s → Gap must (newline k ∷ whitespace s ∷ [])

-- the row that stands before the new element, with no comma more, or with one directly behind its last element, which whitespace and comments alone follow
pub data CommaInserted : OrderedTree → OrderedTree → Type 0 where
  none_comes : {row : OrderedTree} → CommaInserted row row
  one_comes : (front : OrderedTree) (last : Top) (beside : List Content) → IsElement last.content → AreInlineTrivia beside
      → CommaInserted (row_around front last (leaves_then beside none)) (row_around front last (token_then 0x2C (leaves_then beside none)))

-- an element may stand behind this with no further comma
abbrev pub takes_element : Last → Bool
takes_element nothing_yet = true
takes_element an_element = false
takes_element a_comma = true

-- the row that stands behind the new element: a comma comes before elements that follow, with a gap behind it; behind the last one there may be the end of its
-- line, or, where a line ends before it, a comma if documents of these options may have one there
pub data GoesOn (o : Options) (before : List Content) (rest : OrderedTree) : OrderedTree → Type 0 where
  elements_follow : (gap : List Content) → Gap false gap → element_count rest ≢ 0 → GoesOn o before rest (token_then 0x2C (leaves_then gap rest))
  none_follow : (gap : List Content) → Gap false gap → element_count rest ≡ 0 → GoesOn o before rest (leaves_then gap rest)
  comma_last : IsTrue o.trailing_commas → Gap true before → element_count rest ≡ 0 → GoesOn o before rest (token_then 0x2C rest)

-- What the new element follows, where other elements are: the first bracket, or a comma whose line does not end there, with nothing between; or on a line of its own the
-- comments on a comma's line, where spaces alone end that.
pub data Follows (gap : List Content) (led back : OrderedTree) (others : ℕ) : Type 0 where
  behind_bracket : led ≡ none → Follows gap led back others
  behind_comma : (front : OrderedTree) → led ≡ followed_by front (token_then 0x2C none) → line_comes back ≡ false → Follows gap led back others
  behind_comments : Gap true gap → (front rest : OrderedTree) (beside spaces : List Content) (k : CstNewlineKind) → AreInlineTrivia beside → AreInlineTrivia spaces → AreBlanks spaces
      → led ≡ followed_by front (token_then 0x2C (leaves_then beside none)) → back ≡ leaves_then spaces (more (newline k) none rest) → Follows gap led back others
  no_others : others ≡ 0 → Follows gap led back others

-- where no others are, it stands behind all comments
abbrev pub EndsRow : OrderedTree → ℕ → Type 0
EndsRow behind others = others ≡ 0 → (blanks : List Content) × AreBlanks blanks × (behind ≡ leaves_then blanks none)

-- The second row is the first with the new element, `top`, as its element of this number. Where a line ends in the row, the element has a line of its own.
pub data ElementInserted (o : Options) (top : Top) : ℕ → OrderedTree → OrderedTree → Type 0 where
  comes : (front back led behind : OrderedTree) (gap : List Content) → CommaInserted front led → IsTrue (takes_element (last_behind nothing_yet led))
      → IsTrue (not (comma_comes back)) → Gap (has_newline (followed_by front back)) gap → GoesOn o gap back behind
      → Follows gap led back (element_count (followed_by front back)) → EndsRow behind (element_count (followed_by front back))
      → ElementInserted o top (element_count front) (followed_by front back) (followed_by led (leaves_then gap (more top.content top.below behind)))
