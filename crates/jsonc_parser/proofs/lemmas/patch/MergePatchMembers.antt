-- The function of a merge patch on the members of objects, and on members that are equal but for arrays.
use Rattle.std.proofs.Common.{ℕ, ◌≡◌, ◌≢◌, ◌∙◌, ◌++◌, ap, sym, subst, refl, cond, inl, inr, List, [], ◌∷◌, Option, Some, None}
use Rattle.jsonc_text.specs.Plain.{Plain, null, boolean, number, string, array, object, without, Members, no_members, member}
use Rattle.jsonc_insert.specs.named.Members.{LacksMember, no_more, other_name}
use Rattle.jsonc_run.specs.texts.Entries.{members, Named}
use Rattle.jsonc_parser.specs.patch.MergePatch as up
use Rattle.jsonc_parser.specs.patch.MergePatch.{members_in, value_in, with_member, merged, members_merged, IsUpToArrays, AreUpToArrays}
use Rattle.jsonc_parser.specs.patch.Merging.{made_of, members_made}
use Rattle.jsonc_parser.proofs.lemmas.paths.Collapsed.{same_names, other_names, without_past, without_here}
use Rattle.jsonc_parser.proofs.lemmas.paths.Members.{same_or_not}
use Rattle.jsonc_parser.proofs.lemmas.patch.MergePatchPlaces.{entry, lacks_more}

-- past a member of another name, and at one of this name
value_past : (name n : List ℕ) (w : Plain) (ms : Members) → n ≢ name → value_in name (member n w ms) ≡ value_in name ms
value_past name n w ms ne = ap (λ b. cond b (Some w) (value_in name ms)) (other_names n name ne)

value_here : (name : List ℕ) (w : Plain) (ms : Members) → value_in name (member name w ms) ≡ Some w
value_here name w ms = ap (λ b. cond b (Some w) (value_in name ms)) (same_names name)

pub with_past : (name n : List ℕ) (v w : Plain) (ms : Members) → n ≢ name → with_member name v (member n w ms) ≡ member n w (with_member name v ms)
with_past name n v w ms ne = ap (λ b. cond b (member name v ms) (member n w (with_member name v ms))) (other_names n name ne)

pub with_here : (name : List ℕ) (v w : Plain) (ms : Members) → with_member name v (member name w ms) ≡ member name v ms
with_here name v w ms = ap (λ b. cond b (member name v ms) (member name w (with_member name v ms))) (same_names name)

-- where none has the name
pub lacks_without : {name : List ℕ} {ms : Members} → LacksMember name ms → without name ms ≡ ms
lacks_without no_more = refl
lacks_without {name} (other_name {n = n} {v = w} {ms = ms} ne l) = without_past name n w ms ne ∙ ap (member n w) (lacks_without l)

pub lacks_value : {name : List ℕ} {ms : Members} → LacksMember name ms → value_in name ms ≡ None
lacks_value no_more = refl
lacks_value {name} (other_name {n = n} {v = w} {ms = ms} ne l) = value_past name n w ms ne ∙ lacks_value l

-- in members with the name at one place
module _ (name : List ℕ) (x : Plain) (back : List Named) where
  pub row_value : (front : List Named) → LacksMember name (members front) → value_in name (members (front ++ entry name x ∷ back)) ≡ Some x
  row_value [] l = value_here name x (members back)
  row_value (f ∷ fs) l =
      let m = lacks_more l f.name f.value (members fs) refl in
      value_past name f.name f.value (members (fs ++ entry name x ∷ back)) m.other ∙ row_value fs m.rest

  pub row_with : (v : Plain) (front : List Named) → LacksMember name (members front) → with_member name v (members (front ++ entry name x ∷ back)) ≡ members (front ++ entry name v ∷ back)
  row_with v [] l = with_here name v x (members back)
  row_with v (f ∷ fs) l =
      let m = lacks_more l f.name f.value (members fs) refl in
      with_past name f.name v f.value (members (fs ++ entry name x ∷ back)) m.other ∙ ap (member f.name f.value) (row_with v fs m.rest)

  pub row_without : LacksMember name (members back) → (front : List Named) → LacksMember name (members front) → without name (members (front ++ entry name x ∷ back)) ≡ members (front ++ back)
  row_without k [] l = without_here name x (members back) ∙ lacks_without k
  row_without k (f ∷ fs) l =
      let m = lacks_more l f.name f.value (members fs) refl in
      without_past name f.name f.value (members (fs ++ entry name x ∷ back)) m.other ∙ ap (member f.name f.value) (row_without k fs m.rest)

pub row_gains : (name : List ℕ) (v : Plain) (front : List Named) → LacksMember name (members front) → with_member name v (members front) ≡ members (front ++ entry name v ∷ [])
row_gains name v [] l = refl
row_gains name v (f ∷ fs) l =
    let m = lacks_more l f.name f.value (members fs) refl in
    with_past name f.name v f.value (members fs) m.other ∙ ap (member f.name f.value) (row_gains name v fs m.rest)

-- members and values that are the same but for arrays
pub all_same : (ms : Members) → AreUpToArrays ms ms
all_same no_members = up.no_more
all_same (member n v ms) = up.one up.itself (all_same ms)

-- a value, which may be missing
abbrev pub UpTo : Option Plain → Option Plain → Type 0
UpTo (Some v) (Some w) = IsUpToArrays v w
UpTo None None = Unit {0}
UpTo v w = ⊥

pub value_up_to : {ms ns : Members} (name : List ℕ) → AreUpToArrays ms ns → UpTo (value_in name ms) (value_in name ns)
value_up_to name up.no_more = tt
value_up_to name (up.one {name = n} {v = v} {w = w} {ms = ms} {ns = ns} h k) =
    elim (same_or_not n name) [
      | inl is ↦
          subst (λ k. UpTo (value_in name (member k v ms)) (value_in name (member k w ns))) (sym is)
          (subst (λ o. UpTo o (value_in name (member name w ns))) (sym (value_here name v ms)) (subst (λ o. UpTo (Some v) o) (sym (value_here name w ns)) h))
      | inr ne ↦
          subst (λ o. UpTo o (value_in name (member n w ns))) (sym (value_past name n v ms ne)) (subst (λ o. UpTo (value_in name ms) o) (sym (value_past name n w ns ne)) (value_up_to name k))
    ]

pub with_up_to : {ms ns : Members} {v w : Plain} (name : List ℕ) → IsUpToArrays v w → AreUpToArrays ms ns → AreUpToArrays (with_member name v ms) (with_member name w ns)
with_up_to name h up.no_more = up.one h up.no_more
with_up_to {v = x} {w = y} name h (up.one {name = n} {v = v} {w = w} {ms = ms} {ns = ns} j k) =
    elim (same_or_not n name) [
      | inl is ↦
          subst (λ k. AreUpToArrays (with_member name x (member k v ms)) (with_member name y (member k w ns))) (sym is)
          (subst (λ l. AreUpToArrays l (with_member name y (member name w ns))) (sym (with_here name x v ms)) (subst (AreUpToArrays (member name x ms)) (sym (with_here name y w ns)) (up.one h k)))
      | inr ne ↦
          subst (λ l. AreUpToArrays l (with_member name y (member n w ns))) (sym (with_past name n x v ms ne))
          (subst (AreUpToArrays (member n v (with_member name x ms))) (sym (with_past name n y w ns ne)) (up.one j (with_up_to name h k)))
    ]

pub without_up_to : {ms ns : Members} (name : List ℕ) → AreUpToArrays ms ns → AreUpToArrays (without name ms) (without name ns)
without_up_to name up.no_more = up.no_more
without_up_to name (up.one {name = n} {v = v} {w = w} {ms = ms} {ns = ns} j k) =
    elim (same_or_not n name) [
      | inl is ↦
          subst (λ k. AreUpToArrays (without name (member k v ms)) (without name (member k w ns))) (sym is)
          (subst (λ l. AreUpToArrays l (without name (member name w ns))) (sym (without_here name v ms)) (subst (AreUpToArrays (without name ms)) (sym (without_here name w ns)) (without_up_to name k)))
      | inr ne ↦
          subst (λ l. AreUpToArrays l (without name (member n w ns))) (sym (without_past name n v ms ne))
          (subst (AreUpToArrays (member n v (without name ms))) (sym (without_past name n w ns ne)) (up.one j (without_up_to name k)))
    ]

-- an object and one that is the same but for arrays
pub object_up_to : {a : Plain} {ns : Members} → IsUpToArrays a (object ns) → (ms : Members) × (a ≡ object ms) × AreUpToArrays ms ns
object_up_to {ns = ns} h = go h refl
  where
    go : {a v : Plain} → IsUpToArrays a v → v ≡ object ns → (ms : Members) × (a ≡ object ms) × AreUpToArrays ms ns
    go up.itself e = (ns, e, all_same ns)
    go (up.equal_arrays {ws = ws} k) e = let wrong : array ws ≡ object ns = e in cc
    go (up.objects {ms = ms} {ns = ks} k) e = let same : ks ≡ ns = cc in (ms, refl, subst (AreUpToArrays ms) same k)

pub no_object_up_to : {a v : Plain} → IsUpToArrays a v → ((ns : Members) → v ≢ object ns) → (ms : Members) → a ≢ object ms
no_object_up_to up.itself ne ms e = ne ms e
no_object_up_to (up.equal_arrays {vs = vs} k) ne ms e = let wrong : array vs ≡ object ms = e in cc
no_object_up_to (up.objects {ns = ns} k) ne ms e = ne ns refl

pub none_in : (w : Option Plain) → ((ms : Members) → w ≢ Some (object ms)) → members_in w ≡ no_members
none_in None ne = refl
none_in (Some null) ne = refl
none_in (Some (boolean b)) ne = refl
none_in (Some (number s)) ne = refl
none_in (Some (string s)) ne = refl
none_in (Some (array vs)) ne = refl
none_in (Some (object ms)) ne = absurd (ne ms refl)

-- one member of the patch more, which is not null
pub merged_more : (old : Members) (name : List ℕ) (p : Plain) (ms : Members) → p ≢ null → members_merged old (member name p ms) ≡ members_merged (with_member name (merged (value_in name old) p) old) ms
merged_more old name null ms ne = absurd (ne refl)
merged_more old name (boolean b) ms ne = refl
merged_more old name (number s) ms ne = refl
merged_more old name (string s) ms ne = refl
merged_more old name (array vs) ms ne = refl
merged_more old name (object ns) ms ne = refl

pub made_more : (name : List ℕ) (p : Plain) (ms : Members) → p ≢ null → members_made (member name p ms) ≡ member name (made_of p) (members_made ms)
made_more name null ms ne = absurd (ne refl)
made_more name (boolean b) ms ne = refl
made_more name (number s) ms ne = refl
made_more name (string s) ms ne = refl
made_more name (array vs) ms ne = refl
made_more name (object ns) ms ne = refl
