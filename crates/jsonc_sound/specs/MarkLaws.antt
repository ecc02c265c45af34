-- Laws of marks: what is said of each text, tree and change.
use Rattle.std.specs.Prelude.{◌≡◌, ℕ, List, [], ◌∷◌, ◌++◌, chars}
use Rattle.jsonc_text.specs.Options.{Options}
use Rattle.jsonc_text.specs.Text.{Many}
use Rattle.jsonc_text.specs.Gaps.{is_blank, BlockComment}
use Rattle.jsonc_text.specs.Places.{Placed, AreTokens}
use Rattle.jsonc_text.specs.Plain.{Plain}
use Rattle.jsonc_tree.specs.Content.{Content}
use Rattle.jsonc_tree.specs.OrderedTree.{OrderedTree, leaves, Top}
use Rattle.jsonc_sound.specs.Shape.{printed_text}
use Rattle.jsonc_layout.specs.from_input.Layout.{Layout}
use Rattle.jsonc_layout.specs.from_input.Laid.{laid, laid_property}
use Rattle.jsonc_layout.specs.from_input.Texts.{IsCharacters, IsOfTexts}
use Rattle.jsonc_sound.specs.ChangeLaws.{DiffersIn}
use Rattle.jsonc_sound.specs.TreeChanges.{DocumentChanged}
use Rattle.jsonc_sound.specs.TriviaChanges.{AreTrivia, StretchChanged, EndsInComment}
use Rattle.jsonc_sound.specs.InRows.{SpacePut}
use Rattle.jsonc_sound.specs.SoundTrees.{SoundTree}
use Rattle.jsonc_sound.specs.Marks.{Mark, trimmed, comment_mark, AreMarks, marks_of, marks, comments_of}
use Rattle.jsonc_sound.specs.MarkChanges.{MarksDifferIn, AreBlanks, marks_under}
use Rattle.jsonc_sound.specs.Written.{written, property_written, marks_laid}

-- a text has no two lists of marks
abbrev pub HasOneListOfMarks : Options → List ℕ → Type 0
HasOneListOfMarks o t = (ms ns : List Mark) → AreMarks o t ms → AreMarks o t ns → ms ≡ ns

-- and has one where it has a list of lexemes and comments
abbrev pub HasMarksOfTokens : Options → List ℕ → Type 0
HasMarksOfTokens o t = (at : ℕ) (ts : List Placed) → AreTokens o at t ts → (ms : List Mark) × AreMarks o t ms

-- a block comment ends with no blank
abbrev pub EndsWithNoBlank : List ℕ → Type 0
EndsWithNoBlank s = BlockComment s [] → trimmed s ≡ s

-- blanks behind a text are left out with its own
abbrev pub LeavesOutBlanks : List ℕ → List ℕ → Type 0
LeavesOutBlanks s blanks = Many is_blank blanks [] → trimmed (s ++ blanks) ≡ trimmed s

-- a sound tree prints a text that has the marks of its leaves
abbrev pub PrintsItsMarks : Options → OrderedTree → Type 0
PrintsItsMarks o t = SoundTree o t → AreMarks o (printed_text t) (marks t)

-- two stretches of leaves have the marks of the first and then those of the second
abbrev pub MarksJoin : List Content → List Content → Type 0
MarksJoin first second = marks_of (first ++ second) ≡ marks_of first ++ marks_of second

-- where a stretch of leaves is replaced by another, its marks are replaced by those of the other, and before and behind them stand the marks of the leaves there
abbrev pub MarksReplaced : List Content → List Content → List Content → List Content → Type 0
MarksReplaced was now x y = (d : DiffersIn was now x y)
    → (m : MarksDifferIn (marks_of was) (marks_of now) (marks_of x) (marks_of y)) × (m.front ≡ marks_of d.front)
    × (m.back ≡ marks_of d.back)

-- so it is with what two sound trees print
abbrev pub PrintedMarksReplaced : Options → OrderedTree → OrderedTree → Type 0
PrintedMarksReplaced o t u = SoundTree o t → SoundTree o u → (was now : List Content) → DiffersIn was now (leaves t) (leaves u)
    → (ms ns : List Mark) → AreMarks o (printed_text t) ms → AreMarks o (printed_text u) ns → MarksDifferIn (marks_of was) (marks_of now) ms ns

-- where a value of a document is replaced by another, its marks do
abbrev pub ValuesMarksReplaced : OrderedTree → Type 0
ValuesMarksReplaced t = (was now : Top) (path : List ℕ) (u : OrderedTree) → DocumentChanged was now path t u
    → MarksDifferIn (marks_under was) (marks_under now) (marks t) (marks u)

-- and where trivia is replaced by trivia, its marks do
abbrev pub TriviasMarksReplaced : OrderedTree → Type 0
TriviasMarksReplaced t = (was now : List Content) (u : OrderedTree) → StretchChanged was now t u → AreTrivia was
    → AreTrivia now → MarksDifferIn (marks_of was) (marks_of now) (marks t) (marks u)

-- all marks of trivia are comments, and of trivia that ends in a comment the last mark is one
abbrev pub TriviaHasComments : List Content → Type 0
TriviaHasComments contents = AreTrivia contents → comments_of (marks_of contents) ≡ marks_of contents

abbrev pub LastMarkIsComment : List Content → Type 0
LastMarkIsComment contents = EndsInComment contents → (ms : List Mark) × (s : List ℕ) × (marks_of contents ≡ ms ++ Mark.comment s ∷ [])

-- where a comment leaves with blanks before it, its mark leaves from its place, and no other
abbrev pub OneMarkLeaves : List Content → List ℕ → List Content → List Content → Type 0
OneMarkLeaves blanks s x y = AreBlanks blanks → (d : DiffersIn (blanks ++ Content.comment s ∷ []) [] x y)
    → (m : MarksDifferIn (comment_mark (chars s) ∷ []) [] (marks_of x) (marks_of y)) × (m.front ≡ marks_of d.front) × (m.back ≡ marks_of d.back)

-- where blanks are replaced by blanks, the marks stay
abbrev pub BlanksKeepMarks : List Content → List Content → List Content → List Content → Type 0
BlanksKeepMarks was now x y = AreBlanks was → AreBlanks now → DiffersIn was now x y → marks_of y ≡ marks_of x

-- so where a space comes before an element
abbrev pub SpaceKeepsMarks : OrderedTree → Type 0
SpaceKeepsMarks t = (u : OrderedTree) → SpacePut t u → marks u ≡ marks t

-- the marks of the node that a value is laid out as are the literals that are written for the value, in any layout
abbrev pub LaidAsWritten : Layout → Plain → Type 0
LaidAsWritten layout v = IsOfTexts v → marks_laid (laid layout v) ≡ written v

-- and so with a property
abbrev pub LaidAsWrittenNamed : Layout → List ℕ → Plain → Type 0
LaidAsWrittenNamed layout name v = IsCharacters name → IsOfTexts v → marks_laid (laid_property layout name v) ≡ property_written name v

-- none of them is a comment
abbrev pub WritesNoComments : Plain → Type 0
WritesNoComments v = comments_of (written v) ≡ []

-- where a stretch of marks is replaced by another, the comments outside of it stay, in order
abbrev pub KeepsOtherComments : List Mark → List Mark → List Mark → List Mark → Type 0
KeepsOtherComments was now x y = (d : MarksDifferIn was now x y)
    → (comments_of x ≡ comments_of d.front ++ (comments_of was ++ comments_of d.back))
    × (comments_of y ≡ comments_of d.front ++ (comments_of now ++ comments_of d.back))

-- and where none comes, no others are there
abbrev pub HasOtherCommentsAlone : List Mark → List Mark → List Mark → List Mark → Type 0
HasOtherCommentsAlone was now x y = (d : MarksDifferIn was now x y) → comments_of now ≡ [] → comments_of y ≡ comments_of d.front ++ comments_of d.back
