-- What a sort makes of a document: what goes with an entry, and what stays where it is.
use Rattle.std.specs.Prelude.{ℕ, ◌≡◌, ◌≢◌, ◌⊎◌, Bool, true, false, List, [], ◌∷◌, ◌++◌, length, map, get_or, count_by, IsPermutation}
use Rattle.std.specs.List.{range_with_len}
use Rattle.jsonc_text.specs.Gaps.{IsComment}
use Rattle.jsonc_text.specs.Plain.{null}
use Rattle.jsonc_text.specs.Marks.{Mark}
use Rattle.jsonc_text.specs.Documents.{Document}
use Rattle.jsonc_run.specs.texts.Paths.{Kind, opening, closing, Value, HasEntries}
use Rattle.jsonc_run.specs.texts.Entries.{Named, of, Becomes}
use Rattle.jsonc_run.specs.texts.Stretches.{AreBlanks, AreSpaces, HasBlankLine, IsLineEnd, Trivia, InLine}
use Rattle.jsonc_run.specs.texts.Entering.{StartsLine}

-- An entry with what stands before it: what stays in its place, what goes with the entry, and an indent, which stays; and with what goes with it behind it, a
-- comma in that or none.
pub record Held : Type 0 where
  pub stays : List ℕ
  pub above : List ℕ
  pub indent : List ℕ
  pub own : List ℕ
  pub beside : List ℕ
  pub comma : Bool

abbrev pub no_entry : Held
no_entry = record { stays = []; above = []; indent = []; own = []; beside = []; comma = false }

-- the text of such entries, and then r
abbrev pub row : List Held → List ℕ → List ℕ
row [] r = r
row (h ∷ hs) r = h.stays ++ (h.above ++ (h.indent ++ (h.own ++ (h.beside ++ row hs r))))

-- the last entry has a comma
abbrev pub ends_with_comma : List Held → Bool
ends_with_comma [] = false
ends_with_comma (h ∷ []) = h.comma
ends_with_comma (h ∷ g ∷ hs) = ends_with_comma (g ∷ hs)

-- What stays above an entry, behind the end of a line. By blank lines: spaces; or anything, where a blank line is there, or in what goes with the entry. Else, where a
-- rule of the caller's tells what stays: anything.
abbrev pub StaysAbove : (by_blank_lines : Bool) → (line header above : List ℕ) → Type 0
StaysAbove true line header above = AreSpaces header ⊎ HasBlankLine (line ++ (header ++ above))
StaysAbove false line header above = Unit {0}

-- what stands before an entry: on one line, blanks and what goes with it; or the end of a line, which stays with what is before it, and lines that stay or go
pub data Ahead (by_blank_lines : Bool) (Rest : List ℕ → Type 0) : (lines : Bool) → (stays above indent : List ℕ) → Type 0 where
  on_one_line : {blanks above : List ℕ} → AreSpaces blanks → InLine above → Ahead by_blank_lines Rest false blanks above []
  on_lines : {rest line header above indent : List ℕ} → Rest rest → IsLineEnd line → Trivia (λ c. true) header → Trivia (λ c. true) above → AreSpaces indent
      → StaysAbove by_blank_lines line header above → Ahead by_blank_lines Rest true (rest ++ (line ++ header)) above indent

-- what goes with an entry behind it: all up to its comma; and where its line ends then, the comments on that
pub data Beside : (lines comma : Bool) → List ℕ → Type 0 where
  nothing : Beside false false []
  up_to_comma : {s : List ℕ} → Trivia (λ c. true) s → Beside false true (s ++ 0x2C ∷ [])
  and_line : {comma : Bool} {s t : List ℕ} → Beside false comma s → InLine t → Beside true comma (s ++ t)

-- the entries from one on, and what stands behind the last
pub data AreHeld (by_blank_lines : Bool) : List Held → List ℕ → Type 0 where
  last : {h : Held} {blanks end : List ℕ} → Beside true h.comma h.beside → AreSpaces blanks → (end ≡ []) ⊎ StartsLine end → AreHeld by_blank_lines (h ∷ []) (blanks ++ end)
  before : (lines : Bool) {h g : Held} {hs : List Held} {end : List ℕ} → Beside lines h.comma h.beside → Ahead by_blank_lines AreSpaces lines g.stays g.above g.indent
      → AreHeld by_blank_lines (g ∷ hs) end → AreHeld by_blank_lines (h ∷ g ∷ hs) end

-- all entries, from the first bracket on: comments on its line stay there
pub data AreEntries (by_blank_lines : Bool) : List Held → List ℕ → Type 0 where
  no_entries : {end : List ℕ} → AreEntries by_blank_lines [] end
  entries : (lines : Bool) {h : Held} {hs : List Held} {end : List ℕ} → Ahead by_blank_lines InLine lines h.stays h.above h.indent → AreHeld by_blank_lines (h ∷ hs) end
      → AreEntries by_blank_lines (h ∷ hs) end

-- an entry that comes first loses blanks that it begins with
abbrev pub Arrives : (first : Bool) → List ℕ → List ℕ → Type 0
Arrives true x y = (blanks : List ℕ) × (x ≡ blanks ++ y) × AreBlanks blanks
Arrives false x y = y ≡ x

-- an entry has its comma, gets one directly behind it, or loses it with the blanks before that
pub data Punctuated : (has wants : Bool) → List ℕ → List ℕ → Type 0 where
  as_it_was : {b : Bool} {s : List ℕ} → Punctuated b b s s
  with_comma : {s : List ℕ} → Punctuated false true s (0x2C ∷ s)
  without_comma : (s t : List ℕ) {blanks : List ℕ} → AreSpaces blanks → Punctuated true false (s ++ (blanks ++ 0x2C ∷ t)) (s ++ t)

-- the text of the entries in the places of these; each has its comma, and the last if one was last before
pub data Placed (commas : Bool) : (first : Bool) → (places entries : List Held) → List ℕ → Type 0 where
  none_placed : {first : Bool} → Placed commas first [] [] []
  last_placed : {first : Bool} {p h : Held} (above beside : List ℕ) → Arrives first h.above above → Punctuated h.comma commas h.beside beside
      → Placed commas first (p ∷ []) (h ∷ []) (p.stays ++ (above ++ (p.indent ++ (h.own ++ beside))))
  one_placed : {first : Bool} {p q h g : Held} {ps hs : List Held} (above beside : List ℕ) {rest : List ℕ} → Arrives first h.above above → Punctuated h.comma true h.beside beside
      → Placed commas false (q ∷ ps) (g ∷ hs) rest → Placed commas first (p ∷ q ∷ ps) (h ∷ g ∷ hs) (p.stays ++ (above ++ (p.indent ++ (h.own ++ (beside ++ rest)))))

-- the second text is the first, in which lines end behind comments
pub data LinesEnd : List ℕ → List ℕ → Type 0 where
  no_more : LinesEnd [] []
  goes_on : {c : ℕ} {x y : List ℕ} → LinesEnd x y → LinesEnd (c ∷ x) (c ∷ y)
  line_ends : {comment line x y : List ℕ} → IsComment comment [] → IsLineEnd line → LinesEnd x y → LinesEnd (comment ++ x) (comment ++ (line ++ y))

-- between the brackets of the container at the path stands this text, with entries of these texts
abbrev pub Holds : List ℕ → Kind → List (List ℕ) → (front inside back : List ℕ) → Document → Type 0
Holds path kind texts front inside back d = (d.text ≡ front ++ opening kind ∷ (inside ++ closing kind ∷ back))
    × Value path d.options d.text (opening kind ∷ (inside ++ closing kind ∷ back)) back × HasEntries d.options (opening kind ∷ (inside ++ closing kind ∷ back)) texts back

-- between its brackets the entries come in this order, each with what goes with it; and nothing changes outside of them
abbrev pub Moves : (by_blank_lines : Bool) → Kind → (path order : List ℕ) → Document → Document → Type 0
Moves by_blank_lines kind path order d e = (held : List Held) × (front end placed now back : List ℕ) × AreEntries by_blank_lines held end
    × Holds path kind (map (λ h. h.own) held) front (row held end) back d × Holds path kind (map (λ i. get_or (map (λ h. h.own) held) i []) order) front now back e
    × Placed (ends_with_comma held) true held (map (λ i. get_or held i no_entry) order) placed × LinesEnd (placed ++ end) now

-- The container at the path has its entries in this order, each with what goes with it, and each literal and comment as often as before. Where the order is the old
-- one nothing changes. `by_blank_lines` says that comments above an entry stay only by blank lines.
abbrev pub Sorts : (by_blank_lines : Bool) → (path order : List ℕ) → Document → Document → Type 0
Sorts by_blank_lines path order d e = (kind : Kind) × (entries : List Named) × IsPermutation (range_with_len 0 (length entries)) order
    × Becomes (of kind entries) (of kind (map (λ i. get_or entries i (record { name = []; value = null })) order)) path d.value e.value
    × ((test : Mark → Bool) → count_by test e.marks ≡ count_by test d.marks)
    × (((order ≡ range_with_len 0 (length order)) × (e.text ≡ d.text)) ⊎ ((order ≢ range_with_len 0 (length order)) × Moves by_blank_lines kind path order d e))
