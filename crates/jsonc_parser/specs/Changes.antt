-- What has changed between two texts.
use Rattle.std.specs.Prelude.{◌≡◌, ◌⊎◌, ℕ, ◌≤◌, ◌+◌, ◌-◌, List, ◌∷◌, ◌++◌, []}
use Rattle.jsonc_text.specs.Text.{byte_length}
use Rattle.jsonc_text.specs.declared.line.LineAndColumn.{LineAndColumn}
use Rattle.jsonc_mends.specs.declared.mends.TextChange.{TextChange}
use Rattle.jsonc_parser.specs.declared.change.Utf16Change.{Utf16Change}
use Rattle.jsonc_parser.specs.Places.{LineColumnUtf16}

-- between front and back the one text has `was`, and the other `now`
pub record Replaces (old new front was now back : List ℕ) : Type 0 where
  pub before : old ≡ front ++ (was ++ back)
  pub after : new ≡ front ++ (now ++ back)

-- with the bytes from start to end of the old text replaced by `now` it is the new text
abbrev pub IsChange : List ℕ → List ℕ → ℕ → ℕ → List ℕ → Type 0
IsChange old new start end now = (front was back : List ℕ) × Replaces old new front was now back
    × (start ≡ byte_length front) × (end ≡ byte_length (front ++ was))

-- it is one, and each other begins no later and replaces no fewer bytes
pub record IsLeastChange (old new : List ℕ) (start end : ℕ) (now : List ℕ) : Type 0 where
  pub change : IsChange old new start end now
  pub least : (s e : ℕ) (n : List ℕ) → IsChange old new s e n → (s ≤ start) × (end - start ≤ e - s)

-- the two texts do not begin with the same character
abbrev pub HaveNoFirst : List ℕ → List ℕ → Type 0
HaveNoFirst xs ys = (c : ℕ) (a b : List ℕ) → xs ≡ c ∷ a → ys ≡ c ∷ b → ⊥

-- they do not end with the same character
abbrev pub HaveNoLast : List ℕ → List ℕ → Type 0
HaveNoLast xs ys = (c : ℕ) (a b : List ℕ) → xs ≡ a ++ c ∷ [] → ys ≡ b ++ c ∷ [] → ⊥

-- after the longest beginning that both have the one text has xs, and the other ys
abbrev pub BeginsApart : List ℕ → List ℕ → List ℕ → List ℕ → Type 0
BeginsApart old new xs ys = (front : List ℕ) × (old ≡ front ++ xs) × (new ≡ front ++ ys) × HaveNoFirst xs ys

-- before the longest end that both have the one text has xs, and the other ys
abbrev pub EndsApart : List ℕ → List ℕ → List ℕ → List ℕ → Type 0
EndsApart old new xs ys = (back : List ℕ) × (old ≡ xs ++ back) × (new ≡ ys ++ back) × HaveNoLast xs ys

-- the place is between the CR and the LF of a CR LF, which no position of a language server is
pub record IsInsideCrLf (t : List ℕ) (place : ℕ) : Type 0 where
  pub before : List ℕ
  pub after : List ℕ
  pub split : t ≡ before ++ 0x0D ∷ 0x0A ∷ after
  pub at : place ≡ byte_length (before ++ 0x0D ∷ [])

-- this place, or that before the CR where it is inside a CR LF
abbrev pub StartsOutside : List ℕ → ℕ → ℕ → Type 0
StartsOutside t place start = (¬ (IsInsideCrLf t place) × (start ≡ place)) ⊎ (IsInsideCrLf t place × (place ≡ start + 1))

-- this place, or that after the LF
abbrev pub EndsOutside : List ℕ → ℕ → ℕ → Type 0
EndsOutside t place end = (¬ (IsInsideCrLf t place) × (end ≡ place)) ⊎ (IsInsideCrLf t place × (end ≡ place + 1))

-- a change that neither begins nor ends inside a CR LF of the old text
pub record IsChangeOutside (old new : List ℕ) (start end : ℕ) (now : List ℕ) : Type 0 where
  pub change : IsChange old new start end now
  pub begins : ¬ (IsInsideCrLf old start)
  pub ends : ¬ (IsInsideCrLf old end)

-- it is one; each other begins no later, and one that begins there ends no earlier
pub record IsLeastOutside (old new : List ℕ) (start end : ℕ) (now : List ℕ) : Type 0 where
  pub outside : IsChangeOutside old new start end now
  pub least : (s e : ℕ) (n : List ℕ) → IsChangeOutside old new s e n → (s ≤ start) × (s ≡ start → end ≤ e)

-- it is that one, from the line and column `from` of the old text to `to`, the columns in UTF-16 code units
pub record IsUtf16Change (old new : List ℕ) (from to : LineAndColumn) (now : List ℕ) : Type 0 where
  pub start : ℕ
  pub end : ℕ
  pub least : IsLeastOutside old new start end now
  pub begins : LineColumnUtf16 old start from.line from.column
  pub ends : LineColumnUtf16 old end to.line to.column

-- the same change of a text, by lines and columns, the columns in UTF-16 code units
pub record IsByLines (t : List ℕ) (c : TextChange) (u : Utf16Change) : Type 0 where
  pub begins : LineColumnUtf16 t c.range.start u.start.line u.start.column
  pub ends : LineColumnUtf16 t c.range.end u.end.line u.end.column
  pub text : u.new_text.now ≡ c.new_text.now

-- a line from the one to the other has a part of the change, or its start or end
abbrev pub IsOnLines : Utf16Change → (first last : ℕ) → Type 0
IsOnLines u first last = (u.start.line ≤ last) × (first ≤ u.end.line)
