-- The steps of an edit, and what a crash leaves in them.
use Rattle.std.proofs.Common.{◌≡◌, ◌⊎◌, inl, inr, ⊎_elim, ℕ, ◌+◌, ◌-◌, true, List, [], ◌∷◌, Option, Some, None, Result, Ok, Err, IfSome, MatchOption, OnErr, IsTrue, refl, sym, ◌∙◌, ap, subst}
use Rattle.jsonc_files.specs.Calls.{Event, answered, was_read, created, wrote, found_mode, set_owner, set_mode, synced, compared, renamed, removed, synced_folder, failed}
use Rattle.jsonc_files.specs.System.{New, NewOnDisk, Named, State, kept, state, text_of, text_now, CrashLeaves}
use Rattle.jsonc_files.specs.Moments.{MayHaveLeft, AgreesWithRead, Has}
use Rattle.jsonc_files.specs.Mode.{fitting}
use Rattle.jsonc_files.specs.Order.{IsFree, IsReady}
use Rattle.jsonc_files.specs.Edited.{IsMade, NoneBeside, HasCause}
use Rattle.jsonc_files.specs.Steps.{IsBefore, Keeps, IsCreated, IsFilled, IsWritten, IsPut, IsRenamed, IsGivenUp}
use Rattle.jsonc_files.specs.declared.record.Step.{Step}
use Rattle.jsonc_files.specs.declared.record.Step.TheVariants as step
use Rattle.jsonc_files.specs.declared.fault.FileError.{FileError}
use Rattle.jsonc_files.specs.declared.fault.FileError.TheVariants as error
use Rattle.jsonc_files.proofs.Steps.{stays, left_more, failed_same}

-- before the first call
pub at_start : (calls : List Event) → calls ≡ [] → IsBefore None 0 calls
at_start calls none = subst (IsBefore None 0) (sym none) (record { has_read = refl; has_others = refl; named = refl; left = λ before c left. left })

pub free : (read : Option (List ℕ)) (calls : List Event) → IsBefore read 0 calls → IsFree calls
free read calls before = record { named = before.named; others = before.has_others }

pub free_after_failure : (f : Step) (old new : List Event) → new ≡ failed f ∷ old → IsFree old → IsFree new
free_after_failure f old new is was =
    let same = failed_same f (state old) in
    subst IsFree (sym is) (record { named = same.named was.named; others = same.others ∙ was.others })

pub was_read_then : (bytes : List ℕ) (old new : List Event) (read : Option (List ℕ)) (others : ℕ) → new ≡ was_read bytes ∷ old → IsBefore read others old → IsBefore (Some bytes) others new
was_read_then bytes old new read others is before =
    subst (IsBefore (Some bytes) others) (sym is) (record { has_read = refl; has_others = before.has_others; named = before.named; left = left_more (was_read bytes) old before.named before.left })

pub created_then : (mode : ℕ) (old new : List Event) (read : Option (List ℕ)) → new ≡ created mode ∷ old → IsBefore read 0 old → IsBefore read 1 new
created_then mode old new read is before =
    subst (IsBefore read 1) (sym is) (record { has_read = before.has_read; has_others = ap (λ n. n + 1) before.has_others; named = before.named; left = left_more (created mode) old before.named before.left })

pub removed_then : (old new : List Event) (read : Option (List ℕ)) → new ≡ removed ∷ old → IsBefore read 1 old → IsBefore read 0 new
removed_then old new read is before =
    subst (IsBefore read 0) (sym is) (record { has_read = before.has_read; has_others = ap (λ n. n - 1) before.has_others; named = before.named; left = left_more removed old before.named before.left })

pub created_keeps : (first made : List Event) (read : Option (List ℕ)) → IsCreated first made → IsBefore read 0 first → IsBefore read 1 made
created_keeps first made read is before = created_then 0o600 is.earlier made read is.order (is.keeps read 0 before)

pub filled_keeps : (text : List ℕ) (old new : List Event) → IsFilled text old new → Keeps old new
filled_keeps text old new is read others before =
    let a = stays (wrote text) old (wrote text ∷ old) read others refl tt before in
    let b = stays (found_mode is.mode) _ (found_mode is.mode ∷ wrote text ∷ old) read others refl tt a in
    let d = stays (set_owner is.has_owner is.has_group) _ (set_owner is.has_owner is.has_group ∷ found_mode is.mode ∷ wrote text ∷ old) read others refl tt b in
    stays (set_mode (fitting is.mode is.has_owner is.has_group)) _ new read others is.order tt d

pub ready : (text : List ℕ) (written : List Event) → IsWritten text written → IsReady text (compared true ∷ synced ∷ written)
ready text written is = record {
  mode = is.filled.mode;
  has_owner = is.filled.has_owner;
  has_group = is.filled.has_group;
  earlier = is.created.earlier;
  free = is.created.free;
  order = ap (λ (l : List Event). compared true ∷ synced ∷ l) (is.filled.order ∙ ap (λ (l : List Event). set_mode (fitting is.filled.mode is.filled.has_owner is.filled.has_group) ∷ set_owner is.filled.has_owner is.filled.has_group ∷ found_mode is.filled.mode ∷ wrote text ∷ l) is.created.order);
}

pub ready_for : (text : List ℕ) (written calls : List Event) → calls ≡ compared true ∷ synced ∷ written → IsWritten text written → (t : List ℕ) × IsReady t calls
ready_for text written calls is filled = (text, subst (IsReady text) (sym is) (ready text written filled))

pub is_renamed : (text : List ℕ) (first made new : List Event) (read : Option (List ℕ)) → IsCreated first made → IsPut text made new → IsBefore read 0 first → IsRenamed read text new
is_renamed text first made new read is put before =
    let a = filled_keeps text made put.written put.filled read 1 (created_keeps first made read is before) in
    let b = stays synced put.written (synced ∷ put.written) read 1 refl tt a in
    let d = stays (compared true) (synced ∷ put.written) (compared true ∷ synced ∷ put.written) read 1 refl tt b in
    record {
      earlier = compared true ∷ synced ∷ put.written;
      before = d;
      ready = ready text put.written (record { first = first; made = made; created = is; filled = put.filled });
      order = put.order;
    }

made_more : (call event : Event) (calls : List Event) → IsMade event calls → IsMade event (call ∷ calls)
made_more call event calls is = inr is

pub cause_more : (call : Event) (old new : List Event) (e : FileError) → new ≡ call ∷ old → HasCause old e → HasCause new e
cause_more call old new e is cause = subst (λ (l : List Event). HasCause l e) (sym is) (still e cause)
  where
    still : (e : FileError) → HasCause old e → HasCause (call ∷ old) e
    still error.NotAFile c = inr c
    still error.Replaced c = inr c
    still error.Changed c = inr c
    still (error.Failed f x) c = inr c

-- the removal of the new file, whatever its answer
pub given_up : {T E : Type 0} (r : Result T E) (old new : List Event) (read : Option (List ℕ)) → new ≡ answered r (λ _. removed) step.Remove ∷ old → IsBefore read 1 old → IsGivenUp read new
given_up (Ok v) old new read is before =
    let now = removed_then old new read is before in
    record { others = 0; before = now; alone = inl now.has_others }
given_up (Err e) old new read is before =
    record {
      others = 1;
      before = stays (failed step.Remove) old new read 1 is tt before;
      alone = subst NoneBeside (sym is) (inr (inl refl));
    }

-- the old file with its text
pub has_before : (read : Option (List ℕ)) (others : ℕ) (calls : List Event) (before : List ℕ) → IsBefore read others calls → Has before calls before
has_before read others calls before is = record {
  now = ap (λ (n : Named). text_of n before (state calls).text) is.named;
  crash = λ c left. subst (λ (n : Named). CrashLeaves n before (state calls) c) is.named left;
}

pub agreed : (bytes : List ℕ) (others : ℕ) (calls : List Event) (before : List ℕ) → IsBefore (Some bytes) others calls → AgreesWithRead before calls → bytes ≡ before
agreed bytes others calls before is agrees = subst (λ (r : Option (List ℕ)). IfSome r (λ b. b ≡ before)) is.has_read agrees

-- the new file with its text, under the name
pub record IsNew (read : Option (List ℕ)) (text : List ℕ) (calls : List Event) : Type 0 where
  pub has_read : (state calls).read ≡ read
  pub others : (state calls).others ≡ 0
  pub named : ((state calls).named ≡ New) ⊎ ((state calls).named ≡ NewOnDisk)
  pub is_synced : IsTrue (state calls).is_synced
  pub text_is : (state calls).text ≡ text
  pub left : (before c : List ℕ) → MayHaveLeft before calls c → (c ≡ before) ⊎ (c ≡ text)

shown : (n : Named) (s : State) (before text c : List ℕ) → (n ≡ New) ⊎ (n ≡ NewOnDisk) → IsTrue s.is_synced → s.text ≡ text → CrashLeaves n before s c → (c ≡ before) ⊎ (c ≡ text)
shown n s before text c (inl new) whole is left =
    ⊎_elim (λ old. inl old) (λ made. inr (made whole ∙ is)) (subst (λ (m : Named). CrashLeaves m before s c) new left)
shown n s before text c (inr new) whole is left =
    let made = subst (λ (m : Named). CrashLeaves m before s c) new left in
    inr (made whole ∙ is)

pub is_new : (read : Option (List ℕ)) (text : List ℕ) (calls : List Event) → IsRenamed read text calls → IsNew read text calls
is_new read text calls is = subst (IsNew read text) (sym is.order) at_name
  where
    text_is : (state (renamed ∷ is.earlier)).text ≡ text
    text_is = ap (λ (l : List Event). (state l).text) is.ready.order

    is_synced : IsTrue (state (renamed ∷ is.earlier)).is_synced
    is_synced = subst (λ (l : List Event). IsTrue (state l).is_synced) (sym is.ready.order) refl

    at_name : IsNew read text (renamed ∷ is.earlier)
    at_name = record {
      has_read = is.before.has_read;
      others = ap (λ n. n - 1) is.before.has_others;
      named = inl refl;
      is_synced = is_synced;
      text_is = text_is;
      left = λ before c left. ⊎_elim (shown New (state (renamed ∷ is.earlier)) before text c (inl refl) is_synced text_is) (λ old. inl (is.before.left before c old)) left;
    }

kept_new : (n : Named) → (n ≡ New) ⊎ (n ≡ NewOnDisk) → kept n ≡ NewOnDisk
kept_new n (inl new) = ap kept new
kept_new n (inr new) = ap kept new

-- the synchronization of the folder, whatever its answer
pub folder_synced : {T E : Type 0} (r : Result T E) (old new : List Event) (read : Option (List ℕ)) (text : List ℕ) → new ≡ answered r (λ _. synced_folder) step.SyncFolder ∷ old → IsNew read text old → IsNew read text new
folder_synced (Ok v) old new read text is was = subst (IsNew read text) (sym is) (record {
  has_read = was.has_read;
  others = was.others;
  named = inr (kept_new (state old).named was.named);
  is_synced = was.is_synced;
  text_is = was.text_is;
  left = λ before c left. ⊎_elim (shown (state (synced_folder ∷ old)).named (state (synced_folder ∷ old)) before text c (inr (kept_new (state old).named was.named)) was.is_synced was.text_is) (was.left before c) left;
})
folder_synced (Err e) old new read text is was = subst (IsNew read text) (sym is) (record {
  has_read = was.has_read;
  others = was.others;
  named = was.named;
  is_synced = was.is_synced;
  text_is = was.text_is;
  left = λ before c left. ⊎_elim (shown (state old).named (state old) before text c was.named was.is_synced was.text_is) (was.left before c) left;
})

pub on_disk : (old new : List Event) (read : Option (List ℕ)) (text : List ℕ) → new ≡ synced_folder ∷ old → IsNew read text old → (state new).named ≡ NewOnDisk
on_disk old new read text is was = subst (λ (l : List Event). (state l).named ≡ NewOnDisk) (sym is) (kept_new (state old).named was.named)

pub has_new : (read : Option (List ℕ)) (text : List ℕ) (calls : List Event) (before : List ℕ) → IsNew read text calls → (state calls).named ≡ NewOnDisk → Has before calls text
has_new read text calls before is named = record {
  now = ap (λ (n : Named). text_of n before (state calls).text) named ∙ is.text_is;
  crash = λ c left. (subst (λ (n : Named). CrashLeaves n before (state calls) c) named left) is.is_synced ∙ is.text_is;
}

pub text_new : (read : Option (List ℕ)) (text : List ℕ) (calls : List Event) (before : List ℕ) → IsNew read text calls → text_now before (state calls) ≡ text
text_new read text calls before is = at is.named
  where
    at : ((state calls).named ≡ New) ⊎ ((state calls).named ≡ NewOnDisk) → text_now before (state calls) ≡ text
    at (inl new) = ap (λ (n : Named). text_of n before (state calls).text) new ∙ is.text_is
    at (inr new) = ap (λ (n : Named). text_of n before (state calls).text) new ∙ is.text_is

pub agreed_new : (bytes text : List ℕ) (calls : List Event) (before : List ℕ) → IsNew (Some bytes) text calls → AgreesWithRead before calls → bytes ≡ before
agreed_new bytes text calls before is agrees = subst (λ (r : Option (List ℕ)). IfSome r (λ b. b ≡ before)) is.has_read agrees

pub keeps_both : {T E : Type 0} (r : Result T E) (old mid new : List Event) → Keeps old mid → OnErr r (Keeps mid new) → OnErr r (Keeps old new)
keeps_both (Ok v) old mid new first second = tt
keeps_both (Err e) old mid new first second = λ read others before. second read others (first read others before)

-- what is made of the text that was read is made of the one from before
pub made_of : (makes : List ℕ → List ℕ → Type 0) (old new bytes text before : List ℕ) → old ≡ bytes → new ≡ text → bytes ≡ before → makes old text → makes before new
made_of makes old new bytes text before same written is made =
    subst (λ (o : List ℕ). makes o new) (same ∙ is) (subst (λ (n : List ℕ). makes old n) (sym written) made)

pub at_any_moment : (makes : List ℕ → List ℕ → Type 0) (old new bytes text before c : List ℕ) → old ≡ bytes → new ≡ text → bytes ≡ before → makes old text → (c ≡ before) ⊎ (c ≡ new) → (c ≡ before) ⊎ makes before c
at_any_moment makes old new bytes text before c same written is made (inl kept) = inl kept
at_any_moment makes old new bytes text before c same written is made (inr put) =
    inr (subst (λ (n : List ℕ). makes before n) (sym put) (made_of makes old new bytes text before same written is made))

pub of_some : {T : Type 0} (o : Option T) (v : T) (none : Type 0) (some : T → Type 0) → o ≡ Some v → MatchOption o none some → some v
of_some o v none some is known = subst (λ p. MatchOption p none some) is known
