-- The marks of a text, and of a document's tree: the literals and comments, as they are written, in their order.
use Rattle.std.specs.Prelude.{ℕ, ◌≡◌, ◌-◌, Bool, true, false, List, [], ◌∷◌, ◌++◌, length, take, filter, filter_map, Option, Some, None, chars, IsTrue}
use Rattle.std.specs.List.{suffix_len, cons_option}
use Rattle.jsonc_text.specs.Options.{Options}
use Rattle.jsonc_text.specs.Gaps.{is_blank}
use Rattle.jsonc_text.specs.Words.{Keyword, keyword_text}
use Rattle.jsonc_text.specs.Lexemes.{LexemeKind, Scanned, lexeme, IsScanned}
use Rattle.jsonc_tree.specs.Content.{Content}
use Rattle.jsonc_tree.specs.OrderedTree.{OrderedTree, leaves}

-- a literal, which is a string, a number, a word, `true`, `false` or `null`, or a comment, with the characters that are written for it
pub data Mark : Type 0 where
  literal : List ℕ → Mark
  comment : List ℕ → Mark

-- a text without the blanks at its end
abbrev pub trimmed : List ℕ → List ℕ
trimmed s = take (length s - suffix_len is_blank s) s

-- the mark of a comment with this text: the blanks that a line comment ends with are left out; a block comment ends with none
abbrev pub comment_mark : List ℕ → Mark
comment_mark s = Mark.comment (trimmed s)

-- the mark of a lexeme or comment with this text; punctuation has none
abbrev pub mark_of : Scanned → List ℕ → Option Mark
mark_of (lexeme (LexemeKind.punctuation c)) s = None
mark_of (lexeme kind) s = Some (Mark.literal s)
mark_of scanned s = Some (comment_mark s)

-- from t to there stand lexemes and comments with blanks between them, and these are their marks in order
pub data MarksTo (o : Options) (there : List ℕ) : List ℕ → List Mark → Type 0 where
  no_more : MarksTo o there there []
  blank : {c : ℕ} {t : List ℕ} {ms : List Mark} → IsTrue (is_blank c) → MarksTo o there t ms → MarksTo o there (c ∷ t) ms
  one : (w : Scanned) (s : List ℕ) {t r : List ℕ} {ms : List Mark} → IsScanned o w t r → t ≡ s ++ r → MarksTo o there r ms
      → MarksTo o there t (cons_option (mark_of w s) ms)

-- so in a whole text
abbrev pub AreMarks : Options → List ℕ → List Mark → Type 0
AreMarks o t ms = MarksTo o [] t ms

-- the mark of a leaf; brackets, commas, colons, blanks and line ends have none
abbrev pub mark_of_leaf : Content → Option Mark
mark_of_leaf (Content.string s) = Some (Mark.literal (chars s))
mark_of_leaf (Content.word s) = Some (Mark.literal (chars s))
mark_of_leaf (Content.number s) = Some (Mark.literal (chars s))
mark_of_leaf (Content.boolean b) = Some (Mark.literal (keyword_text (Keyword.boolean b)))
mark_of_leaf Content.null = Some (Mark.literal (keyword_text Keyword.null))
mark_of_leaf (Content.comment s) = Some (comment_mark (chars s))
mark_of_leaf _ = None

-- those of leaves, and of a tree
abbrev pub marks_of : List Content → List Mark
marks_of contents = filter_map mark_of_leaf contents

abbrev pub marks : OrderedTree → List Mark
marks t = marks_of (leaves t)

abbrev pub is_comment : Mark → Bool
is_comment (Mark.literal s) = false
is_comment (Mark.comment s) = true

-- the comments among marks
abbrev pub comments_of : List Mark → List Mark
comments_of ms = filter is_comment ms
