-- Every fault of a text, each with the change that mends it.
use Rattle.std.specs.Prelude.{ℕ, ◌<◌, ◌≡◌, true, List, [], ◌∷◌, length, map, chars, slice_index_or, string_bytes}
use Rattle.std.specs.List.{All}
use Rattle.jsonc_text.specs.declared.common.Range.{Range}
use Rattle.jsonc_text.specs.Options.{Options}
use Rattle.jsonc_check.specs.Checker.{HasValueWithin}
use Rattle.jsonc_mend.specs.Changes.{Changes}
use Rattle.jsonc_mends.specs.Places.{IsPart}
use Rattle.jsonc_mends.specs.Told.{HasFirst, IsTold, change_in, told_in}
use Rattle.jsonc_mends.specs.declared.told.Mend.{Mend}
use Rattle.jsonc_mends.specs.declared.mends.Mends.{Mends}

-- the text with all changes made
abbrev pub mended_text : {A : Type 0} → Mends A → List ℕ
mended_text r = string_bytes r.text

-- the first fault is that of the text, and a text without one is a document
abbrev pub Begins : Options → List ℕ → List Mend → Type 0
Begins o bytes [] = HasValueWithin true o (chars bytes)
Begins o bytes (m ∷ ms) = HasFirst o bytes (told_in m)

-- each is a fault of the text, and the first that of the checker; with all changes made the text is the mended one, which is a
-- document, within the depth
pub record IsMended {A : Type 0} (o : Options) (bytes : List ℕ) (r : Mends A) : Type 0 where
  pub faults : All (λ m. IsTold bytes (told_in m)) r.list.items
  pub first : Begins o bytes r.list.items
  pub changes : Changes (chars bytes) (map change_in r.list.items) (chars (string_bytes r.text))
  pub document : HasValueWithin true o (chars (string_bytes r.text))
  pub long : r.length ≡ length bytes

-- the change of this number writes this
pub record IsWritten {A : Type 0} (r : Mends A) (number : ℕ) (new : List ℕ) : Type 0 where
  pub there : number < length r.list.items
  pub part : (d : Mend) → IsPart (string_bytes r.text) (slice_index_or r.list.items number d).written new

-- the change of this number replaces this range by this
pub record IsChangeOf {A : Type 0} (r : Mends A) (number : ℕ) (range : Range) (new : List ℕ) : Type 0 where
  pub written : IsWritten r number new
  pub replaced : (d : Mend) → range ≡ (slice_index_or r.list.items number d).range
