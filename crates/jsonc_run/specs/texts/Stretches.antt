-- Literals and comments of a document parted at a place, and stretches of text that edits speak of.
use Rattle.std.specs.Prelude.{ℕ, ◌≡◌, ◌⊎◌, Bool, not, ◌&&◌, ◌||◌, ◌==◌, List, [], ◌∷◌, ◌++◌, IsTrue}
use Rattle.jsonc_text.specs.Options.{Options}
use Rattle.jsonc_text.specs.Text.{Many, is_line_end}
use Rattle.jsonc_text.specs.Gaps.{Gap, IsComment, is_blank}
use Rattle.jsonc_text.specs.Spelling.{spelled}
use Rattle.jsonc_text.specs.Words.{is_in_word}
use Rattle.jsonc_text.specs.Marks.{Mark, MarksTo, literals_of}
use Rattle.jsonc_text.specs.Documents.{Document}
use Rattle.jsonc_run.specs.texts.Paths.{Kind, an_array, an_object, Value, HasEntries}
use Rattle.jsonc_run.specs.texts.Entries.{Named}

-- the end of one line
pub data IsLineEnd : List ℕ → Type 0 where
  line_feed : IsLineEnd (0x0A ∷ [])
  carriage_return : IsLineEnd (0x0D ∷ [])
  both : IsLineEnd (0x0D ∷ 0x0A ∷ [])

-- a line ends in the stretch
abbrev pub HasLine : List ℕ → Type 0
HasLine s = (x line y : List ℕ) × (s ≡ x ++ (line ++ y)) × IsLineEnd line

-- a comment ends the text, to which a gap leads from its front
abbrev pub EndsInComment : Options → List ℕ → Type 0
EndsInComment o s = (comment : List ℕ) × Gap o s comment × IsComment comment []

abbrev pub AreBlanks : List ℕ → Type 0
AreBlanks s = Many is_blank s []

-- blanks that end no line
abbrev pub is_space : ℕ → Bool
is_space c = is_blank c && not (is_line_end c)

abbrev pub AreSpaces : List ℕ → Type 0
AreSpaces s = Many is_space s []

-- two lines end in the stretch, and no more than spaces stand between their ends; the two parts of a CR LF count as two ends
abbrev pub HasBlankLine : List ℕ → Type 0
HasBlankLine s = (x line spaces other y : List ℕ) × (s ≡ x ++ (line ++ (spaces ++ (other ++ y)))) × IsLineEnd line × AreSpaces spaces × IsLineEnd other

-- blanks that pass the test, and comments
pub data Trivia (p : ℕ → Bool) : List ℕ → Type 0 where
  nothing : Trivia p []
  blank : {c : ℕ} {s : List ℕ} → IsTrue (is_blank c && p c) → Trivia p s → Trivia p (c ∷ s)
  comment : {c s : List ℕ} → IsComment c [] → Trivia p s → Trivia p (c ++ s)

-- trivia in which no line ends but inside of a comment
abbrev pub InLine : List ℕ → Type 0
InLine s = Trivia (λ c. not (is_line_end c)) s

-- the second text is the first without some of its characters that pass the test
pub data Without (p : ℕ → Bool) : List ℕ → List ℕ → Type 0 where
  ended : Without p [] []
  stays : {c : ℕ} {x y : List ℕ} → Without p x y → Without p (c ∷ x) (c ∷ y)
  leaves : {c : ℕ} {x y : List ℕ} → IsTrue (p c) → Without p x y → Without p (c ∷ x) y

-- the document says the same, in the same literals and comments
abbrev pub Same : Document → Document → Type 0
Same d e = (e.value ≡ d.value) × (e.marks ≡ d.marks)

-- a character of a number, a word, `true`, `false` or `null`
abbrev pub is_bare : ℕ → Bool
is_bare c = is_in_word c || c == 0x2B || c == 0x2E

-- one such character ends the first text, and one begins the second
abbrev pub Meet : List ℕ → List ℕ → Type 0
Meet x y = (u v : List ℕ) × (c d : ℕ) × (x ≡ u ++ c ∷ []) × (y ≡ d ∷ v) × IsTrue (is_bare c && is_bare d)

-- between front and back stands nothing; or one space, where without it two literals without quotes would meet
abbrev pub IsSeam : List ℕ → List ℕ → List ℕ → Type 0
IsSeam front back s = (s ≡ []) ⊎ ((s ≡ 0x20 ∷ []) × Meet front back)

-- Between front and back `was` is replaced by `now`, perhaps with a space beside it. All before and all behind stays, to the character.
pub record Text (front was left now right back : List ℕ) (d e : Document) : Type 0 where
  pub before : d.text ≡ front ++ (was ++ back)
  pub after : e.text ≡ front ++ (left ++ (now ++ (right ++ back)))
  pub sides : IsSeam front (now ++ (right ++ back)) left × IsSeam (front ++ (left ++ now)) back right

-- Of the document's marks those ahead stand before the one place in its text, those within from there to the other place, and those behind from there on. At the
-- one place none goes on, and at the other none but a comment whose line blanks end there.
pub record Parted (d : Document) (from to : List ℕ) (ahead within behind : List Mark) : Type 0 where
  pub all : d.marks ≡ ahead ++ (within ++ behind)
  pub before : MarksTo d.options from d.text ahead
  pub through : (blanks rest : List ℕ) × (to ≡ blanks ++ rest) × AreBlanks blanks × MarksTo d.options rest from within
  pub after : MarksTo d.options [] to behind

-- what is written for an entry: in an object its name, and then its value
abbrev pub written : Kind → Named → List Mark
written an_array e = literals_of e.value
written an_object e = Mark.literal (spelled e.name) ∷ literals_of e.value

-- these marks come with the stretch of the second text from one place to the other, and all others stay, in order
abbrev pub Come : List Mark → (from to : List ℕ) → Document → Document → Type 0
Come come from to d e = (ahead behind : List Mark) × Parted e from to ahead come behind × (d.marks ≡ ahead ++ behind)

-- The container at the path has entries of these texts, and then of those. Outside of it nothing changes, to the character.
abbrev pub Inside : List ℕ → (old new : List (List ℕ)) → Document → Document → Type 0
Inside path old new d e = (front was now back : List ℕ) × (d.text ≡ front ++ (was ++ back)) × (e.text ≡ front ++ (now ++ back))
    × Value path d.options d.text (was ++ back) back × HasEntries d.options (was ++ back) old back × HasEntries e.options (now ++ back) new back

-- outside of the value at the path nothing changes, to the character
abbrev pub Within : List ℕ → Document → Document → Type 0
Within path d e = (front was now back : List ℕ) × (d.text ≡ front ++ (was ++ back)) × (e.text ≡ front ++ (now ++ back))
    × Value path d.options d.text (was ++ back) back
