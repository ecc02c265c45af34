-- How far an edit of a file has got.
use Rattle.std.specs.Prelude.{◌≡◌, ℕ, Bool, true, List, ◌∷◌, Option}
use Rattle.jsonc_files.specs.Calls.{Event, created, wrote, found_mode, set_owner, set_mode, synced, compared, renamed}
use Rattle.jsonc_files.specs.System.{Old, state}
use Rattle.jsonc_files.specs.Moments.{MayHaveLeft}
use Rattle.jsonc_files.specs.Mode.{fitting}
use Rattle.jsonc_files.specs.Order.{IsFree, IsReady}
use Rattle.jsonc_files.specs.Edited.{NoneBeside}

-- The old file has the name, a crash at any moment so far left its text, and there are so many new files.
pub record IsBefore (read : Option (List ℕ)) (others : ℕ) (calls : List Event) : Type 0 where
  pub has_read : (state calls).read ≡ read
  pub has_others : (state calls).others ≡ others
  pub named : (state calls).named ≡ Old
  pub left : (before c : List ℕ) → MayHaveLeft before calls c → c ≡ before

-- calls that keep this
abbrev pub Keeps : List Event → List Event → Type 0
Keeps old new = (read : Option (List ℕ)) (others : ℕ) → IsBefore read others old → IsBefore read others new

-- the new file was made, where there was none
pub record IsCreated (old new : List Event) : Type 0 where
  pub earlier : List Event
  pub free : IsFree earlier
  pub keeps : Keeps old earlier
  pub order : new ≡ created 0o600 ∷ earlier

-- it was written, and given an owner and a mode
pub record IsFilled (text : List ℕ) (old new : List Event) : Type 0 where
  pub mode : ℕ
  pub has_owner : Bool
  pub has_group : Bool
  pub order : new ≡ set_mode (fitting mode has_owner has_group) ∷ set_owner has_owner has_group ∷ found_mode mode ∷ wrote text ∷ old

-- the new file was made, and then filled
pub record IsWritten (text : List ℕ) (calls : List Event) : Type 0 where
  pub first : List Event
  pub made : List Event
  pub created : IsCreated first made
  pub filled : IsFilled text made calls

-- and then synchronized, and took the name, which still had the file that was read
pub record IsPut (text : List ℕ) (old new : List Event) : Type 0 where
  pub written : List Event
  pub filled : IsFilled text old written
  pub order : new ≡ renamed ∷ compared true ∷ synced ∷ written

-- the new file took the name of the old one, which a crash up to then leaves
pub record IsRenamed (read : Option (List ℕ)) (text : List ℕ) (calls : List Event) : Type 0 where
  pub earlier : List Event
  pub before : IsBefore read 1 earlier
  pub ready : IsReady text earlier
  pub order : calls ≡ renamed ∷ earlier

-- the old file has its name, and the new one was removed, if it could be
pub record IsGivenUp (read : Option (List ℕ)) (calls : List Event) : Type 0 where
  pub others : ℕ
  pub before : IsBefore read others calls
  pub alone : NoneBeside calls
