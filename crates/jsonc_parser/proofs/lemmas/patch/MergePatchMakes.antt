-- What may be added and removed at tokens through objects.
use Rattle.std.proofs.Common.{ℕ, ◌≡◌, ◌≢◌, ◌⊎◌, ◌++◌, sym, subst, refl, inl, inr, List, [], ◌∷◌, length, Some}
use Rattle.std.specs.List.{All}
use Rattle.std.proofs.lemmas.List.{append-nil, append_assoc}
use Rattle.std.proofs.lemmas.List.Elements.{All-cons, All-nil}
use Rattle.jsonc_text.specs.Plain.{Plain, object, Members, member}
use Rattle.jsonc_insert.specs.named.Members.{LacksMember, no_more, other_name}
use Rattle.jsonc_run.specs.texts.Leaving as leaving
use Rattle.jsonc_run.specs.texts.Entries as entries
use Rattle.jsonc_run.specs.texts.Entries.{of, members, Becomes, Changed, Named}
use Rattle.jsonc_run.specs.texts.Paths.{an_object}
use Rattle.jsonc_parser.specs.patch.Equality as equal
use Rattle.jsonc_parser.specs.patch.Equality.{HasUniqueNames, MembersHaveUniqueNames}
use Rattle.jsonc_parser.specs.patch.Failing.{ReferToNothing}
use Rattle.jsonc_parser.specs.patch.MergePatch.{with_member}
use Rattle.jsonc_parser.specs.patch.Merging.{made_of, members_made}
use Rattle.jsonc_parser.specs.patch.Operations.{as_member, as_whole, in_member, Adds, RefersAlong, Removes}
use Rattle.jsonc_parser.specs.patch.References.{FailsAt, IsOnly, this_only, later_only, MeetsRepeated, Refers, RefersTo, whole}
use Rattle.jsonc_parser.proofs.lemmas.patch.Evaluation.{fails_behind, object_stops}
use Rattle.jsonc_parser.proofs.lemmas.paths.Members.{same_or_not}
use Rattle.jsonc_parser.proofs.lemmas.patch.MergePatchMade.{lacks_with, null_or_not}
use Rattle.jsonc_parser.proofs.lemmas.patch.MergePatchMembers.{made_more, row_gains, with_here, with_past}
use Rattle.jsonc_parser.proofs.lemmas.patch.MergePatchPlaces.{entry, is_list, lacks_more, object_of, only_lacks_not, path_to, refers_behind, tokens_to, within, AreAlone, Around}
use Rattle.jsonc_parser.proofs.lemmas.patch.MergePatchSteps.{refers_member}

-- a change at a place among objects
changed_at : {was now x y : Plain} {path : List ℕ} (os : List Around) → Changed was now path x y → Changed was now (path_to os ++ path) (within os x) (within os y)
changed_at [] c = c
changed_at {was} {now} {x} {y} {path} (o ∷ os) c =
    subst (λ p. Changed was now p (within os (object_of o x)) (within os (object_of o y))) (sym (append_assoc (path_to os) (length o.front ∷ []) path))
    (changed_at os (entries.inside an_object o.front o.back o.name c))

becomes_at : (os : List Around) (was now : Plain) → Becomes was now (path_to os) (Some (within os was)) (Some (within os now))
becomes_at os was now = subst (λ p. Changed was now p (within os was) (within os now)) (append-nil (path_to os)) (changed_at os entries.itself)

refers_path : (os : List Around) → AreAlone os → (v : Plain) → Refers (within os v) (tokens_to os) (path_to os) v
refers_path os alone v =
    subst (λ p. Refers (within os v) (tokens_to os) p v) (append-nil (path_to os)) (subst (λ t. Refers (within os v) t (path_to os ++ []) v) (append-nil (tokens_to os)) (refers_behind os alone v [] [] v whole))

stands_at : (os : List Around) → AreAlone os → (v : Plain) → RefersAlong (Some (within os v)) (tokens_to os) (path_to os) v
stands_at os alone v = (within os v, refl, refers_path os alone v)

pub refers_at : (os : List Around) → AreAlone os → (v : Plain) → RefersTo (Some (within os v)) (tokens_to os) v
refers_at os alone v = (within os v, refl, path_to os, refers_path os alone v)

-- a value is put in the place of one
pub adds_at : (os : List Around) → AreAlone os → (x v : Plain) → Adds v (tokens_to os) (Some (within os x)) (Some (within os v))
adds_at [] alone x v = as_whole
adds_at (o ∷ os) alone x v = in_member o.name (o.front ++ entry o.name x ∷ o.back) (stands_at os alone.1 (object_of o x)) (stands_at (o ∷ os) alone x) (becomes_at (o ∷ os) x v)

all_others : (name : List ℕ) (es : List Named) → LacksMember name (members es) → All (λ e. e.name ≢ name) es
all_others name [] l = All-nil (λ (e : Named). e.name ≢ name)
all_others name (e ∷ es) l = let m = lacks_more l e.name e.value (members es) refl in All-cons (λ (e : Named). e.name ≢ name) e es m.other (all_others name es m.rest)

-- a member is appended
pub adds_new : (os : List Around) → AreAlone os → (name : List ℕ) (ns : Members) → LacksMember name ns → (v : Plain)
    → Adds v (tokens_to os ++ name ∷ []) (Some (within os (object ns))) (Some (within os (object (with_member name v ns))))
adds_new os alone name ns lacks v =
    let l = is_list ns in
    let es : List Named = l.0 in
    let k : LacksMember name (members es) = subst (LacksMember name) l.1 lacks in
    subst (λ m. Adds v (tokens_to os ++ name ∷ []) (Some (within os (object m))) (Some (within os (object (with_member name v m))))) (sym l.1)
    (subst (λ m. Adds v (tokens_to os ++ name ∷ []) (Some (within os (object (members es)))) (Some (within os (object m)))) (sym (row_gains name v es k))
    (as_member name es (stands_at os alone (object (members es))) (all_others name es k) (becomes_at os (object (members es)) (object (members (es ++ entry name v ∷ []))))))

-- a member leaves
pub removes_at : (o : Around) (os : List Around) → AreAlone (o ∷ os) → (x : Plain) → Removes (tokens_to os ++ o.name ∷ []) (Some (within os (object_of o x))) (Some (within os (object (members (o.front ++ o.back)))))
removes_at o os alone x = (
  path_to os ++ length o.front ∷ [],
  x,
  stands_at (o ∷ os) alone x,
  leaving.one an_object o.front o.back (entry o.name x) (path_to os) (becomes_at os (object_of o x) (object (members (o.front ++ o.back)))),
)

-- or there is none
pub none_there : (os : List Around) → AreAlone os → (name : List ℕ) (ns : Members) → LacksMember name ns → ReferToNothing (Some (within os (object ns))) (tokens_to os ++ name ∷ [])
none_there os alone name ns lacks = (λ v r. (let m = refers_member os name ns r refl refl in only_lacks_not ns m.2 lacks), fails)
  where
    same_value : {x y : Plain} → Some x ≡ Some y → y ≡ x
    same_value e = cc

    fails : (other : List ℕ) → FailsAt (Some (within os (object ns))) (tokens_to os ++ name ∷ []) other → ⊥
    fails other (x, is, m) =
        (object_stops refl lacks []).1 other (fails_behind (name ∷ []) (refers_path os alone (object ns)) (subst (λ k. MeetsRepeated other k (tokens_to os ++ name ∷ [])) (same_value is) m))

-- names stay unique
pub with_unique : (name : List ℕ) {v : Plain} {ns : Members} → HasUniqueNames v → MembersHaveUniqueNames ns → MembersHaveUniqueNames (with_member name v ns)
with_unique name g equal.unique_last = equal.unique_member no_more g equal.unique_last
with_unique name {v} g (equal.unique_member {name = n} {v = w} {ms = ms} lacks h k) =
    elim (same_or_not n name) [
      | inl is ↦
          subst (λ j. MembersHaveUniqueNames (with_member name v (member j w ms))) (sym is)
          (subst MembersHaveUniqueNames (sym (with_here name v w ms)) (equal.unique_member (subst (λ j. LacksMember j ms) is lacks) g k))
      | inr apart ↦ subst MembersHaveUniqueNames (sym (with_past name n v w ms apart)) (equal.unique_member (lacks_with lacks name v (λ e. apart (sym e))) h (with_unique name g k))
    ]

lacks_made : {name : List ℕ} {ms : Members} → LacksMember name ms → LacksMember name (members_made ms)
lacks_made no_more = no_more
lacks_made {name} (other_name {n = n} {v = w} {ms = ms} ne l) =
    elim (null_or_not w) [
      | inl is ↦ subst (λ x. LacksMember name (members_made (member n x ms))) (sym is) (lacks_made l)
      | inr other ↦ subst (LacksMember name) (sym (made_more n w ms other)) (other_name ne (lacks_made l))
    ]

mutual
  pub unique_made : {v : Plain} → HasUniqueNames v → HasUniqueNames (made_of v)
  unique_made equal.unique_null = equal.unique_null
  unique_made equal.unique_boolean = equal.unique_boolean
  unique_made equal.unique_number = equal.unique_number
  unique_made equal.unique_string = equal.unique_string
  unique_made (equal.unique_array h) = equal.unique_array h
  unique_made (equal.unique_object h) = equal.unique_object (members_unique_made h)

  members_unique_made : {ms : Members} → MembersHaveUniqueNames ms → MembersHaveUniqueNames (members_made ms)
  members_unique_made equal.unique_last = equal.unique_last
  members_unique_made (equal.unique_member {name = n} {v = w} {ms = ms} lacks h k) =
      elim (null_or_not w) [
        | inl is ↦ subst (λ x. MembersHaveUniqueNames (members_made (member n x ms))) (sym is) (members_unique_made k)
        | inr other ↦ subst MembersHaveUniqueNames (sym (made_more n w ms other)) (equal.unique_member (lacks_made lacks) (unique_made h) (members_unique_made k))
      ]

-- one member of a name, or none
pub only_or_lacks : (name : List ℕ) {ns : Members} → MembersHaveUniqueNames ns → ((i : ℕ) × (x : Plain) × IsOnly name x i ns × HasUniqueNames x) ⊎ LacksMember name ns
only_or_lacks name equal.unique_last = inr no_more
only_or_lacks name (equal.unique_member {name = n} {v = w} {ms = ms} lacks h k) =
    elim (same_or_not n name) [
      | inl is ↦ inl (0, w, subst (λ j. IsOnly name w 0 (member j w ms)) (sym is) (this_only (subst (λ j. LacksMember j ms) is lacks)), h)
      | inr ne ↦
          elim (only_or_lacks name k) [
            | inl found ↦ inl (_, found.1, later_only ne found.2, found.3)
            | inr l ↦ inr (other_name ne l)
          ]
    ]
