-- The calls that an edit of a file makes, each with its answer.
use Rattle.std.specs.Prelude.{ℕ, Bool, List, Result, Ok, Err}
use Rattle.jsonc_files.specs.declared.record.Step.{Step}

pub data Event : Type 0 where
  -- the folder of the file that the name leads to
  opened_folder : Event
  -- the file under the name; whether it is a regular file
  opened : Bool → Event
  locked : Event
  -- whether the name has the file that is open
  found : Bool → Event
  -- the whole file
  was_read : List ℕ → Event
  -- a new file beside the old one, with this mode
  created : ℕ → Event
  wrote : List ℕ → Event
  -- the mode of the file that was read
  found_mode : ℕ → Event
  -- the new file was given the owner and the group of the old one; whether it has them
  set_owner : Bool → Bool → Event
  set_mode : ℕ → Event
  -- the new file is on the disk
  synced : Event
  -- whether the name still has the file that was read, of the same length and time of change
  compared : Bool → Event
  -- the new file took the name
  renamed : Event
  removed : Event
  -- the names in the folder are on the disk
  synced_folder : Event
  failed : Step → Event

-- what a call is recorded as, by its answer
abbrev pub answered : {T E : Type 0} → Result T E → (T → Event) → Step → Event
answered (Ok v) event step = event v
answered (Err _) event step = failed step
