-- The faults of a text with their lines and columns, and the changes for them.
use Rattle.std.specs.Prelude.{ℕ, ◌≡◌, ◌≢◌, true, List, [], ◌∷◌, map, chars}
use Rattle.std.specs.List.{All}
use Rattle.jsonc_text.specs.declared.errors.ParseErrorKind.TheVariants.{OutOfMemory}
use Rattle.jsonc_text.specs.Options.{Options}
use Rattle.jsonc_text.specs.Places.{LineColumn}
use Rattle.jsonc_text.specs.Text.{Spans, rest}
use Rattle.jsonc_walk.specs.Faults.{HasFault, fault}
use Rattle.jsonc_mend.specs.declared.changes.Change.{Change}
use Rattle.jsonc_mends.specs.declared.told.Mend.{Mend}
use Rattle.jsonc_mends.specs.declared.told.Told.{Told}

-- the fault lies in the text, at the line and column of its start, and is no allocation failure
pub record IsTold (bytes : List ℕ) (t : Told) : Type 0 where
  pub range : Spans bytes t.fault.range.start t.fault.range.end
  pub position : LineColumn (chars bytes) t.fault.range.start t.at.line t.at.column
  pub kind : t.fault.kind ≢ OutOfMemory

-- it is the fault of the text
abbrev pub HasFirst : Options → List ℕ → Told → Type 0
HasFirst o bytes t = HasFault o true (chars bytes) (fault t.fault.kind (rest bytes t.fault.range.start) (rest bytes t.fault.range.end))

-- a mend's fault, and its change
abbrev pub told_in : Mend → Told
told_in m = record { fault = m.fault; at = m.at }

abbrev pub change_in : Mend → Change
change_in m = record { range = m.range; written = m.written }

abbrev pub mend_of : Told → Change → Mend
mend_of t c = record { fault = t.fault; at = t.at; range = c.range; written = c.written }

-- there is a mend, and this is the fault of the first
abbrev pub IsFirst : Told → List Mend → Type 0
IsFirst t [] = ⊥
IsFirst t (m ∷ ms) = told_in m ≡ t

-- these mends have these changes, and faults of the text, of which this is the first
pub record BeginWith (bytes : List ℕ) (first : Told) (ms : List Mend) (cs : List Change) : Type 0 where
  pub begins : IsFirst first ms
  pub faults : All (λ m. IsTold bytes (told_in m)) ms
  pub changes : map change_in ms ≡ cs
