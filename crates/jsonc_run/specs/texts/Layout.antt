-- How a value is laid out that an edit writes.
use Rattle.std.specs.Prelude.{ℕ, ◌≡◌, Bool, true, false, ◌||◌, List, [], ◌∷◌, ◌++◌, if◌then◌else◌}
use Rattle.jsonc_text.specs.Words.{Keyword, keyword_text}
use Rattle.jsonc_text.specs.Plain.{Plain, Items, no_items, item, Members, no_members, member}
use Rattle.jsonc_text.specs.Spelling.{spelled}
use Rattle.jsonc_run.specs.texts.Paths.{Kind, an_array, an_object}
use Rattle.jsonc_run.specs.texts.Entries.{Named}
use Rattle.jsonc_run.specs.texts.Stretches.{AreSpaces, IsLineEnd}

-- how lines end, the indent of the line that a value begins on, what one level more adds, and whether a comma stands behind a last entry on a line of its own
pub record Layout : Type 0 where
  pub line_end : List ℕ
  pub indent : List ℕ
  pub level : List ℕ
  pub comma : Bool

-- one level deeper
abbrev pub deeper : Layout → Layout
deeper l = record l { indent = l.indent ++ l.level }

-- entries on one line, with a comma and a space between two
abbrev pub on_one_line : List (List ℕ) → List ℕ
on_one_line [] = []
on_one_line (s ∷ []) = s
on_one_line (s ∷ t ∷ ss) = s ++ (0x2C ∷ 0x20 ∷ on_one_line (t ∷ ss))

-- entries on lines of their own, with a comma behind each but perhaps the last
abbrev pub on_lines : Layout → List (List ℕ) → List ℕ
on_lines l [] = []
on_lines l (s ∷ []) = l.line_end ++ (l.indent ++ (s ++ (if l.comma then 0x2C ∷ [] else [])))
on_lines l (s ∷ t ∷ ss) = l.line_end ++ (l.indent ++ (s ++ (0x2C ∷ on_lines l (t ∷ ss))))

-- so, one level deeper than the bracket behind them, which has a line of its own too; or, where there are none, nothing
abbrev pub spread : Layout → List (List ℕ) → List ℕ
spread l [] = []
spread l (s ∷ ss) = on_lines (deeper l) (s ∷ ss) ++ (l.line_end ++ l.indent)

-- an array or an object with something in it; and an array that holds one
abbrev pub is_filled : Plain → Bool
is_filled (Plain.array (item v vs)) = true
is_filled (Plain.object (member name v ms)) = true
is_filled v = false

abbrev pub holds_filled : Items → Bool
holds_filled no_items = false
holds_filled (item v vs) = is_filled v || holds_filled vs

-- a property: its name, a colon, a space and the text of its value
abbrev pub named : List ℕ → List ℕ → List ℕ
named name s = spelled name ++ (0x3A ∷ 0x20 ∷ s)

abbrev mutual
  -- the text of a value: an array is on one line, or on several where it holds an array or object with something in it; an object is on several
  pub laid_text : Layout → Plain → List ℕ
  laid_text l Plain.null = keyword_text Keyword.null
  laid_text l (Plain.boolean b) = keyword_text (Keyword.boolean b)
  laid_text l (Plain.number s) = s
  laid_text l (Plain.string s) = spelled s
  laid_text l (Plain.array vs) = 0x5B ∷ ((if holds_filled vs then spread l (laid_items (deeper l) vs) else on_one_line (laid_items l vs)) ++ 0x5D ∷ [])
  laid_text l (Plain.object ms) = 0x7B ∷ (spread l (laid_members (deeper l) ms) ++ 0x7D ∷ [])

  -- the texts of entries
  pub laid_items : Layout → Items → List (List ℕ)
  laid_items l no_items = []
  laid_items l (item v vs) = laid_text l v ∷ laid_items l vs

  pub laid_members : Layout → Members → List (List ℕ)
  laid_members l no_members = []
  laid_members l (member name v ms) = named name (laid_text l v) ∷ laid_members l ms

-- the text is the value's in some layout, whose line end is one and whose indents are spaces
abbrev pub IsLaid : Plain → List ℕ → Type 0
IsLaid v s = (l : Layout) × IsLineEnd l.line_end × AreSpaces l.indent × AreSpaces l.level × (s ≡ laid_text l v)

-- and so it is an entry's
abbrev pub IsLaidEntry : Kind → Named → List ℕ → Type 0
IsLaidEntry an_array e s = IsLaid e.value s
IsLaidEntry an_object e s = (t : List ℕ) × (s ≡ named e.name t) × IsLaid e.value t
