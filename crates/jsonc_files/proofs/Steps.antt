-- What each call keeps of `IsBefore`.
use Rattle.std.proofs.Common.{◌≡◌, ⊎_elim, ℕ, List, ◌∷◌, Option, Result, Ok, Err, refl, sym, ◌∙◌, ap, subst}
use Rattle.jsonc_files.specs.Calls.{Event, answered, opened_folder, opened, locked, found, was_read, created, wrote, found_mode, set_owner, set_mode, synced, compared, renamed, removed, synced_folder, failed}
use Rattle.jsonc_files.specs.System.{Old, Named, State, kept, after, state, CrashLeaves}
use Rattle.jsonc_files.specs.Moments.{MayHaveLeft}
use Rattle.jsonc_files.specs.Steps.{IsBefore}
use Rattle.jsonc_files.specs.declared.record.Step.{Step}
use Rattle.jsonc_files.specs.declared.record.Step.TheVariants as step

-- The call reads nothing, and makes, renames and removes no file.
abbrev pub IsPlain : Event → Type 0
IsPlain (was_read _) = ⊥
IsPlain (created _) = ⊥
IsPlain renamed = ⊥
IsPlain removed = ⊥
IsPlain _ = Unit {0}

pub record Same (old new : State) : Type 0 where
  pub read : new.read ≡ old.read
  pub others : new.others ≡ old.others
  pub named : old.named ≡ Old → new.named ≡ Old

is_same : (s : State) → Same s s
is_same s = record { read = refl; others = refl; named = λ old. old }

kept_old : (n : Named) → n ≡ Old → kept n ≡ Old
kept_old n old = ap kept old

pub failed_same : (f : Step) (s : State) → Same s (after (failed f) s)
failed_same step.OpenFolder s = is_same s
failed_same step.Open s = is_same s
failed_same step.Lock s = is_same s
failed_same step.Find s = is_same s
failed_same step.Read s = is_same s
failed_same step.Create s = is_same s
failed_same step.Write s = record { read = refl; others = refl; named = λ old. old }
failed_same step.FindMode s = is_same s
failed_same step.SetOwner s = is_same s
failed_same step.SetMode s = is_same s
failed_same step.Sync s = record { read = refl; others = refl; named = λ old. old }
failed_same step.Compare s = is_same s
failed_same step.Rename s = is_same s
failed_same step.Remove s = is_same s
failed_same step.SyncFolder s = is_same s

pub plain_same : (call : Event) (s : State) → IsPlain call → Same s (after call s)
plain_same opened_folder s plain = is_same s
plain_same (opened b) s plain = is_same s
plain_same locked s plain = is_same s
plain_same (found b) s plain = is_same s
plain_same (was_read bytes) s plain = absurd plain
plain_same (created mode) s plain = absurd plain
plain_same (wrote bytes) s plain = record { read = refl; others = refl; named = λ old. old }
plain_same (found_mode mode) s plain = is_same s
plain_same (set_owner a b) s plain = is_same s
plain_same (set_mode mode) s plain = is_same s
plain_same synced s plain = record { read = refl; others = refl; named = λ old. old }
plain_same (compared b) s plain = is_same s
plain_same renamed s plain = absurd plain
plain_same removed s plain = absurd plain
plain_same synced_folder s plain = record { read = refl; others = refl; named = λ old. kept_old s.named old }
plain_same (failed f) s plain = failed_same f s

old_left : (n : Named) (before : List ℕ) (s : State) (c : List ℕ) → n ≡ Old → CrashLeaves n before s c → c ≡ before
old_left n before s c old left = subst (λ (m : Named). CrashLeaves m before s c) old left

-- a crash after one call more leaves the old file too
pub left_more : (call : Event) (earlier : List Event) → (state (call ∷ earlier)).named ≡ Old → ((before c : List ℕ) → MayHaveLeft before earlier c → c ≡ before) → (before c : List ℕ) → MayHaveLeft before (call ∷ earlier) c → c ≡ before
left_more call earlier named so_far before c left =
    ⊎_elim (λ now. old_left (state (call ∷ earlier)).named before (state (call ∷ earlier)) c named now) (so_far before c) left

pub stays : (call : Event) (old new : List Event) (read : Option (List ℕ)) (others : ℕ) → new ≡ call ∷ old → IsPlain call → IsBefore read others old → IsBefore read others new
stays call old new read others is plain before =
    let same = plain_same call (state old) plain in
    subst (IsBefore read others) (sym is) (record {
      has_read = same.read ∙ before.has_read;
      has_others = same.others ∙ before.has_others;
      named = same.named before.named;
      left = left_more call old (same.named before.named) before.left;
    })

plain_answer : {T E : Type 0} (r : Result T E) (event : T → Event) (f : Step) → ((v : T) → IsPlain (event v)) → IsPlain (answered r event f)
plain_answer (Ok v) event f plain = plain v
plain_answer (Err e) event f plain = tt

-- a call of that kind, whatever its answer
pub goes_on : {T E : Type 0} (r : Result T E) (event : T → Event) (f : Step) (old new : List Event) → new ≡ answered r event f ∷ old → ((v : T) → IsPlain (event v)) → (read : Option (List ℕ)) (others : ℕ) → IsBefore read others old → IsBefore read others new
goes_on r event f old new is plain read others before = stays (answered r event f) old new read others is (plain_answer r event f plain) before
