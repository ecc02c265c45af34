-- What a call asks for.
use Rattle.std.specs.Borrow.{Bor}
use Rattle.std.specs.Prelude.{◌≡◌, ℕ, Bool, true, false, List, Option, Some, None}
use Rattle.jsonc_engine.specs.Command.{Request, check, print, set, append, remove, sort, put, drop, patch, merge, as_json, is_pointer, request_of}
use Rattle.jsonc_engine.specs.declared.command.Place.{Place}
use Rattle.jsonc_words.specs.declared.call.Command.{Command}
use Rattle.jsonc_words.specs.declared.call.Command.TheVariants as called
use Rattle.jsonc_words.specs.declared.call.Format.{Format}
use Rattle.jsonc_words.specs.declared.call.Format.TheVariants as formats
use Rattle.jsonc_program.specs.Formatting.{IsLayoutOf}
use Rattle.jsonc_program.specs.Place.{IsPlace, IsNoPlace, is_names}
use Rattle.jsonc_program.specs.declared.edit.task.Edit.{Edit}
use Rattle.jsonc_program.specs.declared.edit.task.Edit.TheVariants as edit
use Rattle.jsonc_program.specs.declared.edit.task.Target.TheVariants.{At, Named}
use Rattle.jsonc_program.specs.declared.job.Job.{Job}
use Rattle.jsonc_program.specs.declared.layout.Layout.{Layout}
use Rattle.jsonc_program.specs.declared.job.Job.TheVariants as job

-- how many bytes a document may have that is patched: a thousand million, where the words name no other number
abbrev pub most_of : Option ℕ → ℕ
most_of (Some most) = most
most_of None = 1000000000

-- the place that an option names, where it is given
abbrev pub IsPlaceOf : Option (Bor (List ℕ)) → Option Place → Type 0
IsPlaceOf None None = Unit {0}
IsPlaceOf (Some word) (Some place) = IsPlace word.now place
IsPlaceOf _ _ = ⊥

-- what the engine is asked for by a command with this text as its last argument, and with `--must-exist` or without
abbrev pub IsRunOf : Command → Bool → List ℕ → Request → Type 0
IsRunOf (called.Check format all) must text request = (format ≡ formats.Text) × (all ≡ false) × (request ≡ check)
IsRunOf called.Print must text request = request ≡ print
IsRunOf (called.Set name value) must text request = (must ≡ false) × (request ≡ set name.now text)
IsRunOf (called.Append value) must text request = request ≡ append text
IsRunOf (called.Remove name comments) must text request =
    (comments ≡ false) × (must ≡ false) × (request ≡ remove name.now)
IsRunOf (called.Sort at recursive headers) must text request =
    (at ≡ None) × (recursive ≡ false) × (headers ≡ false) × (request ≡ sort)
IsRunOf (called.Drop place comments) must text request =
    (is_names place.now ≡ true) × (comments ≡ false) × (must ≡ false) × (request ≡ drop place.now)
IsRunOf (called.Put place value) must text request =
    (is_names place.now ≡ true) × (must ≡ false) × (request ≡ put place.now text)
IsRunOf (called.Patch source most) must text request = request ≡ patch text (most_of most)
IsRunOf (called.Merge source) must text request = request ≡ merge text
IsRunOf called.Json must text request = request ≡ as_json
IsRunOf other must text request = ⊥

-- the edit that it asks for in place of that
abbrev pub IsEditOf : Command → Bool → List ℕ → Edit → Type 0
IsEditOf (called.Set name value) must text (edit.Replace (Named at) json) =
    (must ≡ true) × (at.now ≡ name.now) × (json.now ≡ text)
IsEditOf (called.Put place value) must text (edit.Replace (At at) json) =
    (must ≡ true) × IsPlace place.now at × (json.now ≡ text)
IsEditOf (called.Put place value) must text (edit.Put pointer json) =
    (must ≡ false) × (is_pointer place.now ≡ true) × (pointer.now ≡ place.now) × (json.now ≡ text)
IsEditOf (called.Remove name comments) must text (edit.Remove (Named at) with_comments must_exist) =
    (at.now ≡ name.now) × (with_comments ≡ comments) × (must_exist ≡ must)
IsEditOf (called.Drop place comments) must text (edit.Remove (At at) with_comments must_exist) =
    IsPlace place.now at × (with_comments ≡ comments) × (must_exist ≡ must)
IsEditOf (called.Rename place name) must text (edit.Rename at new) = IsPlace place.now at × (new.now ≡ name.now)
IsEditOf (called.Comment place source after) must text (edit.Comment at said is_after) =
    IsPlace place.now at × (said.now ≡ text) × (is_after ≡ after)
IsEditOf (called.Sort word recursive headers) must text (edit.Sort at is_recursive keeps_headers) =
    IsPlaceOf word at × (is_recursive ≡ recursive) × (keeps_headers ≡ headers)
IsEditOf _ must text _ = ⊥

-- the value that it asks for
abbrev pub IsGetOf : Command → Place → Bool → Type 0
IsGetOf (called.Get place raw) at is_raw = IsPlace place.now at × (is_raw ≡ raw)
IsGetOf other at is_raw = ⊥

-- what a linter is to look for
abbrev pub IsLintOf : Command → Format → Bool → Type 0
IsLintOf (called.Lint as_format commas) format no_commas = (format ≡ as_format) × (no_commas ≡ commas)
IsLintOf other format no_commas = ⊥

-- how a document is to be laid out, and whether it is only to be checked, or shown what changes
abbrev pub IsFormatOf : Command → Layout → (only shows : Bool) → Type 0
IsFormatOf (called.Format options) layout only shows =
    IsLayoutOf options.indent options.line_end options.expand options.trailing_commas layout
    × (only ≡ options.only_checks) × (shows ≡ options.shows_diff)
IsFormatOf other layout only shows = ⊥

-- the job is what the command asks for
abbrev pub IsJobOf : Command → Bool → List ℕ → Job → Type 0
IsJobOf command must text (job.Run asked) = IsRunOf command must text (request_of asked)
IsJobOf command must text (job.Edit asked) = IsEditOf command must text asked
IsJobOf command must text (job.Get place is_raw) = IsGetOf command place is_raw
IsJobOf command must text job.Check = command ≡ called.Check formats.Json false
IsJobOf command must text (job.CheckAll format) = command ≡ called.Check format true
IsJobOf command must text (job.Lint format no_commas) = IsLintOf command format no_commas
IsJobOf command must text (job.Format layout only shows) = IsFormatOf command layout only shows
IsJobOf command must text job.Mend = command ≡ called.Mend

-- the words of the places of a command
abbrev pub HasPlace : Command → List ℕ → Type 0
HasPlace (called.Get place raw) word = place.now ≡ word
HasPlace (called.Put place value) word = place.now ≡ word
HasPlace (called.Drop place comments) word = place.now ≡ word
HasPlace (called.Rename place name) word = place.now ≡ word
HasPlace (called.Comment place source after) word = place.now ≡ word
HasPlace (called.Sort (Some place) recursive headers) word = place.now ≡ word
HasPlace other word = ⊥
