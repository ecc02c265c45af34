-- Merging makes one value.
use Rattle.std.proofs.Common.{ℕ, ◌≡◌, ◌∙◌, ◌++◌, ap, sym, subst, refl, List, [], ◌∷◌, Option, Some, None}
use Rattle.jsonc_text.specs.Plain.{Plain, object, Members, without}
use Rattle.jsonc_parser.specs.patch.Equality.{HasUniqueNames, MembersHaveUniqueNames}
use Rattle.jsonc_parser.specs.patch.Failing.{ReferToNothing}
use Rattle.jsonc_parser.specs.patch.MergePatch.{value_in, with_member}
use Rattle.jsonc_parser.specs.patch.Merging as merging
use Rattle.jsonc_parser.specs.patch.Merging.{Merges, MembersMerge}
use Rattle.jsonc_parser.specs.patch.Operations.{Removes}
use Rattle.jsonc_parser.proofs.lemmas.patch.MergePatchLaw.{around, from_nothing, is_alone, is_around, member_comes, member_place, member_there, merges_value, unique_members, unique_parts, value_there, OneMerged}
use Rattle.jsonc_parser.proofs.lemmas.patch.MergePatchMembers.{all_same, lacks_value, value_up_to, UpTo}
use Rattle.jsonc_parser.proofs.lemmas.patch.MergePatchPlaces.{only_lacks_not, refers_there, split_only, tokens_to, within, AreAlone, Around}
use Rattle.jsonc_parser.proofs.lemmas.patch.MergePatchSteps.{adds_there, comes, removes_there, there}

-- what it makes at a name of an object
one_merged : {all : List (List ℕ)} {p : Plain} {w u : Option Plain} → Merges all p w u → (os : List Around) → AreAlone os → (name : List ℕ) (ns : Members) → all ≡ tokens_to os ++ name ∷ []
    → w ≡ Some (within os (object ns)) → HasUniqueNames p → OneMerged os name p ns ns u
one_merged {u = u} merges os alone name ns e is h =
    elim (member_place merges os name ns e is) [
      | there only ↦
          let sp = split_only only in
          member_there os name ns ns sp (merges_value merges (around sp ∷ os) (is_alone sp, alone) _ (value_in name ns) (value_there sp (all_same ns)) e (is_around os sp is) h)
      | comes lacks so ↦ member_comes os name ns ns u h (subst (UpTo (value_in name ns)) (lacks_value lacks) (value_up_to name (all_same ns))) so
    ]

removes_nothing : {tokens : List (List ℕ)} {w u : Option Plain} → Removes tokens w u → ReferToNothing w tokens → ⊥
removes_nothing (path, x, stands, loses) none = none.0 x (stands.0, stands.1, path, stands.2)

mutual
  value_once : {tokens : List (List ℕ)} {p : Plain} {w y z : Option Plain} → Merges tokens p w y → Merges tokens p w z → (os : List Around) → AreAlone os → (v : Plain) → tokens ≡ tokens_to os
      → w ≡ Some (within os v) → HasUniqueNames p → y ≡ z
  value_once {tokens} {w = w} (merging.inside {ns = ns} r mm) (merging.inside r2 mm2) os alone v e is u =
      members_once mm mm2 os alone ns e (is ∙ ap (λ k. Some (within os k)) (refers_there os v w is tokens e r)) (unique_members u)
  value_once (merging.inside {ms = ms} {ns = ns} r mm) (merging.same not_into h) os alone v e is u = absurd (not_into (ms, ns, refl, r))
  value_once (merging.inside {ms = ms} {ns = ns} r mm) (merging.put not_into another adds) os alone v e is u = absurd (not_into (ms, ns, refl, r))
  value_once (merging.same not_into h) (merging.inside {ms = ms} {ns = ns} r mm) os alone v e is u = absurd (not_into (ms, ns, refl, r))
  value_once (merging.same not_into h) (merging.same not_into2 h2) os alone v e is u = refl
  value_once (merging.same not_into h) (merging.put not_into2 another adds) os alone v e is u = absurd (another h)
  value_once (merging.put not_into another adds) (merging.inside {ms = ms} {ns = ns} r mm) os alone v e is u = absurd (not_into (ms, ns, refl, r))
  value_once (merging.put not_into another adds) (merging.same not_into2 h) os alone v e is u = absurd (another h)
  value_once (merging.put not_into another adds) (merging.put not_into2 another2 adds2) os alone v e is u = adds_there adds os v e is ∙ sym (adds_there adds2 os v e is)

  members_once : {tokens : List (List ℕ)} {ms : Members} {w y z : Option Plain} → MembersMerge tokens ms w y → MembersMerge tokens ms w z → (os : List Around) → AreAlone os → (ns : Members)
      → tokens ≡ tokens_to os → w ≡ Some (within os (object ns)) → MembersHaveUniqueNames ms → y ≡ z
  members_once merging.no_more merging.no_more os alone ns e is u = refl
  members_once {z = z} (merging.removed {tokens = tokens} {name = name} {ms = ms} removes mm) (merging.removed removes2 mm2) os alone ns e is u =
      let left = removes_there os name ns removes (ap (λ l. l ++ name ∷ []) e) is in
      let left2 = removes_there os name ns removes2 (ap (λ l. l ++ name ∷ []) e) is in
      members_once mm (subst (λ k. MembersMerge tokens ms k z) (left2 ∙ sym left) mm2) os alone (without name ns) e left (unique_parts u).rest
  members_once (merging.removed removes mm) (merging.absent none mm2) os alone ns e is u = absurd (removes_nothing removes none)
  members_once (merging.removed removes mm) (merging.merged not_null m mm2) os alone ns e is u = absurd (not_null refl)
  members_once (merging.absent none mm) (merging.removed removes mm2) os alone ns e is u = absurd (removes_nothing removes none)
  members_once (merging.absent none mm) (merging.absent none2 mm2) os alone ns e is u = members_once mm mm2 os alone ns e is (unique_parts u).rest
  members_once (merging.absent none mm) (merging.merged not_null m mm2) os alone ns e is u = absurd (not_null refl)
  members_once (merging.merged not_null m mm) (merging.removed removes mm2) os alone ns e is u = absurd (not_null refl)
  members_once (merging.merged not_null m mm) (merging.absent none mm2) os alone ns e is u = absurd (not_null refl)
  members_once {z = z} (merging.merged {tokens = tokens} {name = name} {ms = ms} {u = u} not_null m mm) (merging.merged {u = u2} not_null2 m2 mm2) os alone ns e is unique =
      let parts = unique_parts unique in
      let further : tokens ++ name ∷ [] ≡ tokens_to os ++ name ∷ [] = ap (λ l. l ++ name ∷ []) e in
      let same : u ≡ u2 =
      elim (member_place m os name ns further is) [
        | there only ↦ let sp = split_only only in value_once m m2 (around sp ∷ os) (is_alone sp, alone) _ further (is_around os sp is) parts.value
        | comes lacks so ↦
            elim (member_place m2 os name ns further is) [
              | there only ↦ absurd (only_lacks_not ns only lacks)
              | comes lacks2 so2 ↦ so ∙ sym so2
            ]
      ] in
      let one = one_merged m os alone name ns further is parts.value in
      members_once mm (subst (λ k. MembersMerge tokens ms k z) (sym same) mm2) os alone (with_member name one.new ns) e one.is parts.rest

pub merges_once : (p : Plain) (w y z : Option Plain) → HasUniqueNames p → Merges [] p w y → Merges [] p w z → y ≡ z
merges_once p (Some x) y z u one other = value_once one other [] tt x refl refl u
merges_once p None y z u one other = from_nothing one refl refl u ∙ sym (from_nothing other refl refl u)
