-- Changes of a text, in order and apart.
use Rattle.std.specs.Prelude.{ℕ, ◌+◌, List, [], ◌∷◌, ◌++◌, chars, string_bytes}
use Rattle.jsonc_text.specs.Text.{byte_length}
use Rattle.jsonc_text.specs.declared.common.Range.{Range}
use Rattle.jsonc_mend.specs.declared.changes.Change.{Change}
use Rattle.jsonc_mend.specs.declared.changes.Changed.{Changed}

-- the range of `piece`, with `before` before it
abbrev pub range_after : List ℕ → List ℕ → Range
range_after before piece = record { start = byte_length before; end = byte_length before + byte_length piece }

-- the change of `was`, with `old` before it, into `now`, with `new` before it
abbrev pub change_of : List ℕ → List ℕ → List ℕ → List ℕ → Change
change_of old was new now = record { range = range_after old was; written = range_after new now }

-- with these changes, each after the one before it, the one text is the other. A piece that no change has is in both.
-- Texts are lists of characters, and so is each piece
pub data Changes : List ℕ → List Change → List ℕ → Type 0 where
  none : Changes [] [] []
  kept : {old new : List ℕ} {cs : List Change} (same : List ℕ) → Changes old cs new → Changes (old ++ same) cs (new ++ same)
  changed : {old new : List ℕ} {cs : List Change} (was now : List ℕ) → Changes old cs new
      → Changes (old ++ was) (cs ++ change_of old was new now ∷ []) (new ++ now)

-- this is the text with these changes
abbrev pub IsMade : {A : Type 0} → List ℕ → Changed A → Type 0
IsMade t made = Changes t made.list.items (chars (string_bytes made.text))
