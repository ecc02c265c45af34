-- What is said of a text when an entry comes into a row, or when the row is put on several lines.
use Rattle.std.specs.Prelude.{ℕ, ◌≡◌, ◌≢◌, ◌⊎◌, Bool, true, false, not, List, [], ◌∷◌, ◌++◌, length, IsTrue}
use Rattle.jsonc_text.specs.Options.{Options}
use Rattle.jsonc_text.specs.Text.{is_line_end}
use Rattle.jsonc_text.specs.Gaps.{Gap, is_blank}
use Rattle.jsonc_run.specs.texts.Paths.{Kind, an_array, an_object, opening, closing, IsEntry, Value, Entry}
use Rattle.jsonc_run.specs.texts.Entries.{Named, of, Becomes}
use Rattle.jsonc_text.specs.Documents.{Document}
use Rattle.jsonc_run.specs.texts.Stretches.{IsLineEnd, HasLine, AreBlanks, AreSpaces, is_space, InLine, Without, written, Come, Inside}
use Rattle.jsonc_run.specs.texts.Commenting.{OnLine}
use Rattle.jsonc_run.specs.texts.Layout.{IsLaidEntry}

-- blanks alone come, and leave, and of those that leave none ends a line
abbrev pub Reflows : List ℕ → List ℕ → Type 0
Reflows x y = (z : List ℕ) × Without is_space x z × Without is_blank y z

-- from t to r stand entries, commas and gaps
pub data Along (o : Options) (kind : Kind) : List ℕ → List ℕ → Type 0 where
  there : {r : List ℕ} → Along o kind r r
  past_gap : {t u r : List ℕ} → Gap o t u → Along o kind u r → Along o kind t r
  past_comma : {t r : List ℕ} → Along o kind t r → Along o kind (0x2C ∷ t) r
  past_entry : {t u r : List ℕ} → IsEntry o kind t u → Along o kind u r → Along o kind t r

-- a line ends in the container at the path, directly between its brackets
abbrev pub HasLineEnd : List ℕ → Document → Type 0
HasLineEnd path e = (kind : Kind) × (u r x y : List ℕ) × (c : ℕ) × Value path e.options e.text u r × (u ≡ opening kind ∷ x) × Along e.options kind x (c ∷ y) × IsTrue (is_line_end c)

-- past a gap no comma comes
abbrev pub NoCommaComes : Options → List ℕ → Type 0
NoCommaComes o t = (r : List ℕ) → Gap o t (0x2C ∷ r) → ⊥

-- Blanks leave a container directly behind its first bracket, or before its last one, where others may stand between: spaces, or a line ends among the others.
pub data Trims (kind : Kind) : List ℕ → List ℕ → Type 0 where
  behind_first : (front s gone back : List ℕ) → AreBlanks s → AreBlanks gone → AreSpaces gone ⊎ HasLine s
      → Trims kind (front ++ opening kind ∷ (s ++ (gone ++ back))) (front ++ opening kind ∷ (s ++ back))
  before_last : (front gone s back : List ℕ) → AreBlanks gone → AreBlanks s → AreSpaces gone ⊎ HasLine s
      → Trims kind (front ++ (gone ++ (s ++ closing kind ∷ back))) (front ++ (s ++ closing kind ∷ back))

-- an object in which no line ends may be put on several lines before
abbrev pub Spreads : Kind → List ℕ → Document → List ℕ → Type 0
Spreads an_array path d y = y ≡ d.text
Spreads an_object path d y = (y ≡ d.text) ⊎ ((HasLineEnd path d → ⊥) × Reflows d.text y)

-- the text, or a comma has come into it directly behind an entry, which trivia on its line alone follow; and then r
pub data Led (o : Options) (kind : Kind) (r : List ℕ) : List ℕ → List ℕ → Type 0 where
  as_it_was : {s : List ℕ} → Led o kind r s s
  with_comma : (s entry : List ℕ) {beside : List ℕ} → IsEntry o kind (entry ++ 0x2C ∷ (beside ++ r)) (0x2C ∷ (beside ++ r)) → InLine beside
      → Led o kind r (s ++ (entry ++ beside)) (s ++ (entry ++ 0x2C ∷ beside))

-- the text begins with the end of a line
abbrev pub StartsLine : List ℕ → Type 0
StartsLine s = (line t : List ℕ) × (s ≡ line ++ t) × IsLineEnd line

-- blanks, and then the end of their line
abbrev pub EndsLine : List ℕ → Type 0
EndsLine s = (blanks r : List ℕ) × (s ≡ blanks ++ r) × AreBlanks blanks × InLine blanks × StartsLine r

-- past blanks and comments the line of the text ends
abbrev pub LineEnds : List ℕ → Type 0
LineEnds s = (r : List ℕ) × OnLine s r × StartsLine r

-- entries, blanks and comments, of which no blank ends a line, and no comma between the entries, and then r
pub data OneLine (o : Options) (kind : Kind) : List ℕ → List ℕ → Type 0 where
  leads : {t r : List ℕ} → OnLine t r → OneLine o kind t r
  past_entry : {t u w r : List ℕ} → OnLine t u → IsEntry o kind u w → OneLine o kind w r → OneLine o kind t r

-- t is the end of a line and an indent, and then r
abbrev pub LineThen : List ℕ → List ℕ → Type 0
LineThen t r = (line indent : List ℕ) × (t ≡ line ++ (indent ++ r)) × IsLineEnd line × AreSpaces indent

-- From t on, which stands behind the first bracket or a comma, to the last bracket, and then r: a line ends there at once, and none else ends in the part, through its
-- comma. Behind the last part, if anything stands in it, one more ends, and its bracket is alone on a line.
pub data BeginLines (o : Options) (kind : Kind) : List ℕ → List ℕ → Type 0 where
  one_part : {t s u r : List ℕ} → LineThen t s → OneLine o kind s (0x2C ∷ u) → BeginLines o kind u r → BeginLines o kind t r
  last_part : {c : ℕ} {t s u r : List ℕ} → LineThen t (c ∷ s) → IsTrue (not (is_blank c)) → OneLine o kind (c ∷ s) u → LineThen u (closing kind ∷ r)
      → BeginLines o kind t r
  no_part : {t r : List ℕ} → LineThen t (closing kind ∷ r) → BeginLines o kind t r

-- each part of the container at the path, through its comma, is on a line of its own, and so is its last bracket
abbrev pub IsOnLines : List ℕ → Document → Type 0
IsOnLines path e = (kind : Kind) × (r x : List ℕ) × Value path e.options e.text (opening kind ∷ x) r × BeginLines e.options kind x r

-- between brackets, behind the first of which u stands, t stands directly behind that, or directly behind a comma between the entries
pub data Begins (o : Options) (kind : Kind) (u : List ℕ) : (by_comma : Bool) → (t : List ℕ) → Type 0 where
  at_bracket : Begins o kind u false u
  at_comma : {t : List ℕ} → Along o kind u (0x2C ∷ t) → Begins o kind u true t

-- what is written between two pieces of a row: nothing, one space, or the end of a line and an indent
pub data Spacing : List ℕ → Type 0 where
  nothing : Spacing []
  a_space : Spacing (0x20 ∷ [])
  a_line : {line indent : List ℕ} → IsLineEnd line → AreSpaces indent → Spacing (line ++ indent)

-- An entry with this text comes between others, those that stand before it and those that follow, before the rest. All around it stays but blanks directly inside of
-- the brackets. At most a comma comes before it, directly behind an entry, and spacing; and behind it a comma and spacing. A gap leads to it from the first bracket or
-- a comma of the row whose line does not end there, which is this spacing alone.
-- Where a line ends directly before it, comments on the comma's line may be part of the gap, and with them that line ended. Of the only entry the gap is trivia on the
-- bracket's line, or a line ends directly before it; and from it blanks alone lead to the last bracket. Where no comma comes behind it a gap leads from there to the last
-- bracket; where one comes, entries follow, or a line ends directly before it.
abbrev pub Joins : Kind → List ℕ → (before follow : List (List ℕ)) → (new rest : List ℕ) → Document → Document → Type 0
Joins kind path before follow new rest d e = (spread shorter front led gap comma behind back : List ℕ) × Spreads kind path d spread × Trims kind spread shorter × Trims kind shorter (front ++ back)
    × Led d.options kind (gap ++ (new ++ rest)) front led × Spacing gap
    × (((comma ≡ 0x2C ∷ []) × ((follow ≢ []) ⊎ StartsLine gap)) ⊎ ((comma ≡ []) × (r : List ℕ) × Gap d.options back (closing kind ∷ r))) × Spacing behind
    × NoCommaComes d.options back × (e.text ≡ led ++ (gap ++ (new ++ rest))) × (rest ≡ comma ++ (behind ++ back))
    × (x t u r : List ℕ) × (by_comma : Bool) × (led ≡ x ++ t) × Value path e.options e.text (opening kind ∷ u) r
    × Begins e.options kind u by_comma (t ++ (gap ++ (new ++ rest))) × Gap d.options (t ++ (gap ++ (new ++ rest))) (new ++ rest)
    × (((t ≡ []) × (by_comma ≡ true → LineEnds back → ⊥)) ⊎ (((by_comma ≡ true) × InLine t × StartsLine gap × EndsLine back) ⊎ ((before ++ follow ≡ []) × (InLine t ⊎ StartsLine gap))))
    × ((before ++ follow ≡ []) → (z r : List ℕ) × AreBlanks z × (rest ≡ z ++ closing kind ∷ r))

-- Between these and those an entry comes into the container at the path, in one of the layouts, and its marks with its text; each other keeps its text.
abbrev pub Gains : Kind → List ℕ → (front back : List Named) → Named → Document → Document → Type 0
Gains kind path front back new d e = Becomes (of kind (front ++ back)) (of kind (front ++ new ∷ back)) path d.value e.value
    × (before behind : List (List ℕ)) × (length before ≡ length front) × (text rest : List ℕ) × Inside path (before ++ behind) (before ++ text ∷ behind) d e
    × Entry (path ++ length before ∷ []) e.options e.text (text ++ rest) rest × Come (written kind new) (text ++ rest) rest d e × Joins kind path before behind text rest d e
    × IsLaidEntry kind new text
