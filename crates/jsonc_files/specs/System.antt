-- What the system is trusted to do: the text at the name after these calls, and what a crash then leaves there.
-- A crash is a loss of power, or the death of the process: it keeps what was synchronized, and maybe more.
use Rattle.std.specs.Prelude.{◌≡◌, ◌⊎◌, ℕ, ◌+◌, ◌-◌, Bool, true, false, List, [], ◌∷◌, ◌++◌, Option, Some, None, IsTrue}
use Rattle.jsonc_files.specs.Calls.{Event, was_read, created, wrote, synced, renamed, removed, synced_folder, failed}
use Rattle.jsonc_files.specs.declared.record.Step.TheVariants.{Write, Sync}

-- Which file has the name: the old one, the new one but on the disk maybe still the old one, or the new one.
pub data Named : Type 0 where
  Old : Named
  New : Named
  NewOnDisk : Named

pub record State : Type 0 where
  -- what was read of the old file
  pub read : Option (List ℕ)
  -- what was written to the new file
  pub text : List ℕ
  -- no write and no synchronization of it has failed
  pub is_whole : Bool
  -- the disk has it
  pub is_synced : Bool
  -- how many new files there are under names of their own
  pub others : ℕ
  pub named : Named

abbrev pub start : State
start = record { read = None; text = []; is_whole = true; is_synced = false; others = 0; named = Old }

-- Synchronizing the folder keeps a renaming.
abbrev pub kept : Named → Named
kept Old = Old
kept New = NewOnDisk
kept NewOnDisk = NewOnDisk

-- A call that fails changes nothing, but that a write or a synchronization which fails may lose what was written.
abbrev pub after : Event → State → State
after (was_read bytes) s = record s { read = Some bytes }
after (created mode) s = record s { text = []; is_whole = true; is_synced = false; others = s.others + 1 }
after (wrote bytes) s = record s { text = s.text ++ bytes; is_synced = false }
after synced s = record s { is_synced = s.is_whole }
after renamed s = record s { named = New; others = s.others - 1 }
after removed s = record s { others = s.others - 1 }
after synced_folder s = record s { named = kept s.named }
after (failed Write) s = record s { is_whole = false; is_synced = false }
after (failed Sync) s = record s { is_whole = false; is_synced = false }
after _ s = s

-- the state after these calls, of which the last one comes first
abbrev pub state : List Event → State
state [] = start
state (call ∷ earlier) = after call (state earlier)

-- what is read under the name, where the old file has the text `before`
abbrev pub text_of : Named → List ℕ → List ℕ → List ℕ
text_of Old before new = before
text_of New before new = new
text_of NewOnDisk before new = new

abbrev pub text_now : List ℕ → State → List ℕ
text_now before s = text_of s.named before s.text

-- A crash leaves the old file as it was, and of the new file what was synchronized: else anything.
abbrev pub CrashLeaves : Named → List ℕ → State → List ℕ → Type 0
CrashLeaves Old before s c = c ≡ before
CrashLeaves New before s c = (c ≡ before) ⊎ (IsTrue s.is_synced → c ≡ s.text)
CrashLeaves NewOnDisk before s c = IsTrue s.is_synced → c ≡ s.text

-- what a crash at this moment may leave at the name
abbrev pub MayLeave : List ℕ → State → List ℕ → Type 0
MayLeave before s c = CrashLeaves s.named before s c
