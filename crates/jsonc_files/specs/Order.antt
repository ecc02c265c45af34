-- What has to be done before a call.
use Rattle.std.specs.Prelude.{◌≡◌, ℕ, Bool, true, List, ◌∷◌}
use Rattle.jsonc_files.specs.Calls.{Event, opened, locked, found, created, wrote, found_mode, set_owner, set_mode, synced, compared}
use Rattle.jsonc_files.specs.System.{Old, state}
use Rattle.jsonc_files.specs.Mode.{fitting}

-- The last calls opened a regular file, locked it, and then found that the name still has it.
abbrev pub IsLocked : List Event → Type 0
IsLocked (found true ∷ locked ∷ opened true ∷ earlier) = Unit {0}
IsLocked _ = ⊥

-- The old file has the name, and there is no new one.
pub record IsFree (calls : List Event) : Type 0 where
  pub named : (state calls).named ≡ Old
  pub others : (state calls).others ≡ 0

-- The last calls made a new file that nobody else may read, wrote the text, gave it the owner and then the mode,
-- synchronized it, and last of all found the old file as it was read.
pub record IsReady (text : List ℕ) (calls : List Event) : Type 0 where
  pub mode : ℕ
  pub has_owner : Bool
  pub has_group : Bool
  pub earlier : List Event
  pub free : IsFree earlier
  pub order : calls ≡ compared true ∷ synced ∷ set_mode (fitting mode has_owner has_group) ∷ set_owner has_owner has_group ∷ found_mode mode ∷ wrote text ∷ created 0o600 ∷ earlier
