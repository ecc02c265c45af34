-- The marks of a text: its literals and comments, as they are written, in their order; and the literals that are written for a value.
use Rattle.std.specs.Prelude.{ℕ, ◌≡◌, ◌-◌, Bool, true, false, List, [], ◌∷◌, ◌++◌, length, take, filter, Option, Some, None, IsTrue}
use Rattle.std.specs.List.{suffix_len, cons_option}
use Rattle.jsonc_text.specs.Options.{Options}
use Rattle.jsonc_text.specs.Gaps.{is_blank}
use Rattle.jsonc_text.specs.Words.{Keyword, keyword_text}
use Rattle.jsonc_text.specs.Plain.{Plain, Items, no_items, item, Members, no_members, member}
use Rattle.jsonc_text.specs.Spelling.{spelled}
use Rattle.jsonc_text.specs.Lexemes.{LexemeKind, Scanned, lexeme, IsScanned}

-- a literal, which is a string, a number, a word, `true`, `false` or `null`, or a comment, with the characters that are written for it
pub data Mark : Type 0 where
  literal : List ℕ → Mark
  comment : List ℕ → Mark

-- the mark of a lexeme or comment with this text; punctuation has none, and that of a line comment is without the blanks that end it
abbrev pub mark_of : Scanned → List ℕ → Option Mark
mark_of (lexeme (LexemeKind.punctuation c)) s = None
mark_of (lexeme kind) s = Some (Mark.literal s)
mark_of scanned s = Some (Mark.comment (take (length s - suffix_len is_blank s) s))

-- from t to r stand lexemes and comments with blanks between them, and these are their marks in order
pub data MarksTo (o : Options) (r : List ℕ) : List ℕ → List Mark → Type 0 where
  no_more : MarksTo o r r []
  blank : {c : ℕ} {t : List ℕ} {ms : List Mark} → IsTrue (is_blank c) → MarksTo o r t ms → MarksTo o r (c ∷ t) ms
  one : (w : Scanned) (s : List ℕ) {t u : List ℕ} {ms : List Mark} → IsScanned o w t u → t ≡ s ++ u → MarksTo o r u ms
      → MarksTo o r t (cons_option (mark_of w s) ms)

abbrev pub is_comment : Mark → Bool
is_comment (Mark.literal s) = false
is_comment (Mark.comment s) = true

-- the comments among marks
abbrev pub comments_of : List Mark → List Mark
comments_of ms = filter is_comment ms

-- what is written for a value, mark by mark: a string and a name as they are spelled, a number as it is, and of a container what it holds
abbrev mutual
  pub literals_of : Plain → List Mark
  literals_of Plain.null = Mark.literal (keyword_text Keyword.null) ∷ []
  literals_of (Plain.boolean b) = Mark.literal (keyword_text (Keyword.boolean b)) ∷ []
  literals_of (Plain.number s) = Mark.literal s ∷ []
  literals_of (Plain.string s) = Mark.literal (spelled s) ∷ []
  literals_of (Plain.array vs) = literals_of_items vs
  literals_of (Plain.object ms) = literals_of_members ms

  pub literals_of_items : Items → List Mark
  literals_of_items no_items = []
  literals_of_items (item v vs) = literals_of v ++ literals_of_items vs

  pub literals_of_members : Members → List Mark
  literals_of_members no_members = []
  literals_of_members (member name v ms) = Mark.literal (spelled name) ∷ (literals_of v ++ literals_of_members ms)
