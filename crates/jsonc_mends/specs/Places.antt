-- Places of a text, and of its mended text.
use Rattle.std.specs.Prelude.{ℕ, ◌+◌, ◌-◌, ◌<◌, ◌≤◌, ◌≡◌, List, [], ◌∷◌, length, slice_index_or, slice_range}
use Rattle.jsonc_text.specs.declared.common.Range.{Range}
use Rattle.jsonc_text.specs.Text.{Spans}
use Rattle.jsonc_mends.specs.declared.told.Mend.{Mend}
use Rattle.jsonc_mends.specs.declared.places.Side.{Side}
use Rattle.jsonc_mends.specs.declared.places.Side.TheVariants.{Text, Mended}

-- the bytes that a change has in the one text, or in the other
abbrev pub bytes_in : Side → Mend → Range
bytes_in Text m = m.range
bytes_in Mended m = m.written

abbrev pub other : Side → Side
other Text = Mended
other Mended = Text

-- so many of these changes, the first ones, begin at this place or before it
pub record Begun (s : Side) (ms : List Mend) (place count : ℕ) : Type 0 where
  pub bound : count ≤ length ms
  pub begun : (k : ℕ) (d : Mend) → k < count → (bytes_in s (slice_index_or ms k d)).start ≤ place
  pub later : (k : ℕ) (d : Mend) → count ≤ k → k < length ms → place < (bytes_in s (slice_index_or ms k d)).start

-- the place of the other text that goes with this one: the same before all changes; the start of the change that this one is within; behind
-- a change, as far from its end in the other text as in this one
pub data GoesWith (s : Side) (ms : List Mend) (place : ℕ) : ℕ → Type 0 where
  before : Begun s ms place 0 → GoesWith s ms place place
  inside : (count : ℕ) (m : Mend) → Begun s ms place (count + 1) → m ≡ slice_index_or ms count m → place < (bytes_in s m).end
      → GoesWith s ms place (bytes_in (other s) m).start
  behind : (count : ℕ) (m : Mend) → Begun s ms place (count + 1) → m ≡ slice_index_or ms count m → (bytes_in s m).end ≤ place
      → GoesWith s ms place ((place - (bytes_in s m).end) + (bytes_in (other s) m).end)

-- the place of the text that goes with this one of the mended text
abbrev pub GoesBack : List Mend → ℕ → ℕ → Type 0
GoesBack ms place text_place = GoesWith Mended ms place text_place

-- changes in order and apart, from the places i and j of the two texts on, up to the places n and k; what is between them is as long in both
abbrev pub Apart : Side → ℕ → ℕ → List Mend → ℕ → ℕ → Type 0
Apart s i j [] n k = (i ≤ n) × (n + j ≡ k + i)
Apart s i j (m ∷ ms) n k = (i ≤ (bytes_in s m).start) × ((bytes_in s m).start + j ≡ (bytes_in (other s) m).start + i)
    × ((bytes_in s m).start ≤ (bytes_in s m).end) × ((bytes_in (other s) m).start ≤ (bytes_in (other s) m).end)
    × Apart s (bytes_in s m).end (bytes_in (other s) m).end ms n k

-- there are bytes from the one place of the changed text to the other, and one change wrote all of them
pub record IsWrittenBy (ms : List Mend) (start end : ℕ) : Type 0 where
  pub some : start < end
  pub change : ℕ
  pub there : change < length ms
  pub from : (d : Mend) → (slice_index_or ms change d).written.start ≤ start
  pub to : (d : Mend) → end ≤ (slice_index_or ms change d).written.end

-- these bytes of a text
pub record IsPart (bytes : List ℕ) (r : Range) (part : List ℕ) : Type 0 where
  pub span : Spans bytes r.start r.end
  pub value : part ≡ slice_range bytes r.start r.end
