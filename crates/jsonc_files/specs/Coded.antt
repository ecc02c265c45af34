-- How the logic stores events.
use Rattle.std.specs.Prelude.{◌≡◌, ℕ, Bool, List, [], false, cond, ◌==◌, refl}
use Rattle.std.specs.Coded.{Coded, code_by, coded×, coded_ℕ, coded_bool, coded_list}
use mathlib.Core.Path.{ap}
use Rattle.jsonc_files.specs.Calls.{Event, opened_folder, opened, locked, found, was_read, created, wrote, found_mode, set_owner, set_mode, synced, compared, renamed, removed, synced_folder, failed}
use Rattle.jsonc_files.specs.declared.record.Step.{Step}
use Rattle.jsonc_files.specs.declared.record.Step.TheVariants.{OpenFolder, Open, Lock, Find, Read, Create, Write, FindMode, SetOwner, SetMode, Sync, Compare, Rename, Remove, SyncFolder}

abbrev step_number : Step → ℕ
step_number OpenFolder = 0
step_number Open = 1
step_number Lock = 2
step_number Find = 3
step_number Read = 4
step_number Create = 5
step_number Write = 6
step_number FindMode = 7
step_number SetOwner = 8
step_number SetMode = 9
step_number Sync = 10
step_number Compare = 11
step_number Rename = 12
step_number Remove = 13
step_number SyncFolder = 14

abbrev step_at : ℕ → Step
step_at n =
    cond (n == 0) OpenFolder (cond (n == 1) Open (cond (n == 2) Lock (cond (n == 3) Find (cond (n == 4) Read (cond (n == 5) Create (cond (n == 6) Write (cond (n == 7) FindMode (cond (n == 8) SetOwner (cond (n == 9) SetMode (cond (n == 10) Sync (cond (n == 11) Compare (cond (n == 12) Rename (cond (n == 13) Remove (SyncFolder))))))))))))))

pub step_at-step_number : (s : Step) → step_at (step_number s) ≡ s
step_at-step_number OpenFolder = refl
step_at-step_number Open = refl
step_at-step_number Lock = refl
step_at-step_number Find = refl
step_at-step_number Read = refl
step_at-step_number Create = refl
step_at-step_number Write = refl
step_at-step_number FindMode = refl
step_at-step_number SetOwner = refl
step_at-step_number SetMode = refl
step_at-step_number Sync = refl
step_at-step_number Compare = refl
step_at-step_number Rename = refl
step_at-step_number Remove = refl
step_at-step_number SyncFolder = refl

-- which event, a number, two truth values, and bytes
abbrev Parts : Type 0
Parts = ℕ × (ℕ × (Bool × (Bool × List ℕ)))

abbrev to_parts : Event → Parts
to_parts opened_folder = (0, (0, (false, (false, []))))
to_parts (opened a) = (1, (0, (a, (false, []))))
to_parts locked = (2, (0, (false, (false, []))))
to_parts (found a) = (3, (0, (a, (false, []))))
to_parts (was_read bytes) = (4, (0, (false, (false, bytes))))
to_parts (created n) = (5, (n, (false, (false, []))))
to_parts (wrote bytes) = (6, (0, (false, (false, bytes))))
to_parts (found_mode n) = (7, (n, (false, (false, []))))
to_parts (set_owner a b) = (8, (0, (a, (b, []))))
to_parts (set_mode n) = (9, (n, (false, (false, []))))
to_parts synced = (10, (0, (false, (false, []))))
to_parts (compared a) = (11, (0, (a, (false, []))))
to_parts renamed = (12, (0, (false, (false, []))))
to_parts removed = (13, (0, (false, (false, []))))
to_parts synced_folder = (14, (0, (false, (false, []))))
to_parts (failed s) = (15, (step_number s, (false, (false, []))))

abbrev from_parts : Parts → Event
from_parts p =
    cond (p.0 == 0) opened_folder (cond (p.0 == 1) (opened p.1.1.0) (cond (p.0 == 2) locked (cond (p.0 == 3) (found p.1.1.0) (cond (p.0 == 4) (was_read p.1.1.1.1) (cond (p.0 == 5) (created p.1.0) (cond (p.0 == 6) (wrote p.1.1.1.1) (cond (p.0 == 7) (found_mode p.1.0) (cond (p.0 == 8) (set_owner p.1.1.0 p.1.1.1.0) (cond (p.0 == 9) (set_mode p.1.0) (cond (p.0 == 10) synced (cond (p.0 == 11) (compared p.1.1.0) (cond (p.0 == 12) renamed (cond (p.0 == 13) removed (cond (p.0 == 14) synced_folder ((failed (step_at p.1.0)))))))))))))))))

pub from_parts-to_parts : (e : Event) → from_parts (to_parts e) ≡ e
from_parts-to_parts opened_folder = refl
from_parts-to_parts (opened a) = refl
from_parts-to_parts locked = refl
from_parts-to_parts (found a) = refl
from_parts-to_parts (was_read bytes) = refl
from_parts-to_parts (created n) = refl
from_parts-to_parts (wrote bytes) = refl
from_parts-to_parts (found_mode n) = refl
from_parts-to_parts (set_owner a b) = refl
from_parts-to_parts (set_mode n) = refl
from_parts-to_parts synced = refl
from_parts-to_parts (compared a) = refl
from_parts-to_parts renamed = refl
from_parts-to_parts removed = refl
from_parts-to_parts synced_folder = refl
from_parts-to_parts (failed s) = ap failed (step_at-step_number s)

abbrev pub events_code : Coded (List Event)
events_code = coded_list (code_by Parts (coded× coded_ℕ (coded× coded_ℕ (coded× coded_bool (coded× coded_bool (coded_list coded_ℕ))))) to_parts from_parts from_parts-to_parts)
